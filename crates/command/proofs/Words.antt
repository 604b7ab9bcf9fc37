-- One word of a call, and one word more.
use Rattle.std.proofs.Common.{◌≡◌, ℕ, suc, ◌+◌, ◌<◌, Bool, List, [], map, length, get_or, Some, None, Option, sym, ap, ◌∙◌, arith}
use Rattle.std.proofs.lemmas.List.{length-map, get_or-map}
use Rattle.command.specs.Call.{word_of, request_up_to, request_of, Within, Placed, run_after, request_after}
use Rattle.command.specs.declared.call.Word.{Word}
use Rattle.command.specs.declared.call.Word.TheVariants.{AskHelp, AskFull, Unknown, Name}
use Rattle.command.specs.declared.call.Request.{Request}
use Rattle.command.specs.declared.call.Request.TheVariants.{Help, Wrong, Run}

-- a place among n words is one among n + 1
within_more : (n : ℕ) (file : Option ℕ) → Within n file → Within (n + 1) file
within_more n None h = tt
within_more n (Some place) h = omega arith

run_placed : (n : ℕ) (full : Bool) (file : Option ℕ) (word : Word) → Within n file → Placed (n + 1) (run_after full file word n)
run_placed n full file AskHelp h = tt
run_placed n full file AskFull h = within_more n file h
run_placed n full file Unknown h = tt
run_placed n full None Name h = omega arith
run_placed n full (Some place) Name h = tt

-- the file's name is still one of the words
pub placed_more : (n : ℕ) (request : Request) (word : Word) → Placed n request → Placed (n + 1) (request_after request word n)
placed_more n Help word h = tt
placed_more n Wrong word h = tt
placed_more n (Run full file) word h = run_placed n full file word h

-- what the words up to this one ask for
pub one_more : {X : Type 0} (f : X → List ℕ) (words : List X) (i : ℕ) (x : X) (request : Request) → i < length words →
    request ≡ request_up_to (map f words) i → x ≡ get_or words i x →
    request_after request (word_of (f x)) i ≡ request_up_to (map f words) (i + 1)
one_more f words i x request below so_far is =
    let one : i + 1 ≡ suc i = omega arith in
    ap (λ (r : Request). request_after r (word_of (f x)) i) so_far
    ∙ ap (λ (t : List ℕ). request_after (request_up_to (map f words) i) (word_of t) i) (ap f is ∙ sym (get_or-map f words i x [] below))
    ∙ ap (request_up_to (map f words)) (sym one)

-- what all words ask for
pub all_words : {X : Type 0} (f : X → List ℕ) (words : List X) (i : ℕ) (request : Request) → i ≡ length words →
    request ≡ request_up_to (map f words) i → request ≡ request_of (map f words)
all_words f words i request is so_far = so_far ∙ ap (request_up_to (map f words)) (is ∙ sym (length-map words f))

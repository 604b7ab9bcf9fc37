-- What the words of a call ask for. Assumes nothing: these are definitions.
use Rattle.std.specs.Prelude.{ℕ, zero, suc, ◌<◌, Bool, true, false, List, [], length, Some, None, codes, Option, ◌==◌, slice_index, slice_index_or}
use Rattle.std.specs.Str.{bytes_eq}
use Rattle.survey.specs.Survey.{pick}
use Rattle.command.specs.declared.call.Word.{Word}
use Rattle.command.specs.declared.call.Word.TheVariants.{AskHelp, AskFull, Unknown, Name}
use Rattle.command.specs.declared.call.Request.{Request}
use Rattle.command.specs.declared.call.Request.TheVariants.{Help, Wrong, Run}

-- a word is one of the two options, or begins with '-' and is none, or is a file's name
abbrev pub word_of : List ℕ → Word
word_of text =
    pick (bytes_eq text (codes "--help")) AskHelp
    (pick (bytes_eq text (codes "--full")) AskFull
    (pick (slice_index text 0 == 45) Unknown Name))

-- a file's name at this place: a second one is wrong
abbrev pub name_after : Bool → Option ℕ → ℕ → Request
name_after full None place = Run full (Some place)
name_after full (Some first) place = Wrong

-- what a call to work asks for after one more word, at this place
abbrev pub run_after : Bool → Option ℕ → Word → ℕ → Request
run_after full file AskHelp place = Help
run_after full file AskFull place = Run true file
run_after full file Unknown place = Wrong
run_after full file Name place = name_after full file place

-- a call for help and a wrong call stay so
abbrev pub request_after : Request → Word → ℕ → Request
request_after Help word place = Help
request_after Wrong word place = Wrong
request_after (Run full file) word place = run_after full file word place

-- what the first n words ask for
abbrev pub request_up_to : List (List ℕ) → ℕ → Request
request_up_to words zero = Run false None
request_up_to words (suc n) = request_after (request_up_to words n) (word_of (slice_index_or words n [])) n

-- what all words ask for
abbrev pub request_of : List (List ℕ) → Request
request_of words = request_up_to words (length words)

-- a place, where there is one, is one of n
abbrev pub Within : ℕ → Option ℕ → Type 0
Within n None = Unit {0}
Within n (Some place) = place < n

-- the file's name is one of n words
abbrev pub Placed : ℕ → Request → Type 0
Placed n Help = Unit {0}
Placed n Wrong = Unit {0}
Placed n (Run full file) = Within n file

-- The auditor's answer: what it means, that there is one at most, and the line it prints. Assumes nothing: these are
-- definitions and statements.
use Rattle.std.specs.Prelude.{◌≡◌, ℕ, zero, suc, ◌<◌, ◌≤◌, Bool, true, false, List, [], ◌∷◌, ◌++◌, length, codes, decimal, slice_index_or}
use Rattle.survey.specs.Model.{size}
use Rattle.survey.specs.Page.{Survey, Pattern, Sound, hidden, need, Witness, Protected}
use Rattle.survey.specs.Promise.{Bar}
use Rattle.survey.specs.Survey.{pick}
use Rattle.cut.specs.Least.{LeastCut}
use Rattle.publication.specs.declared.audited.Audit as program
use Rattle.publication.specs.declared.audited.Audit.TheVariants as given

-- the pattern protects; or this cell is open and printed; or it is open and blank, with the rows and columns that bar it
pub data Answer : Type 0 where
  protected : Answer
  printed : ℕ → Answer
  barred : ℕ → List Bool → List Bool → Answer

-- the answer that the program's value stands for
abbrev pub answer : program.Audit → Answer
answer given.Protected = protected
answer (given.Printed c) = printed c
answer (given.Barred c cut) = barred c cut.rows cut.columns

-- cell c is the first that lacks something and has no witness
pub record FirstOpen (s : Survey) (h : Pattern) (c : ℕ) : Type 0 where
  pub inside : c < size s
  pub lacks : 0 < need s c
  pub none : Witness s h c → ⊥
  pub before : (d : ℕ) → d < c → 0 < need s d → Witness s h d

-- forty marks, none of them past the table's n rows or columns
pub record Forty (n : ℕ) (marks : List Bool) : Type 0 where
  pub long : length marks ≡ 40
  pub past : (i : ℕ) → n ≤ i → slice_index_or marks i false ≡ false

-- what the answer means
unfoldable pub Audited : Survey → Pattern → Answer → Type 0
Audited s h protected = Protected s h
Audited s h (printed c) = FirstOpen s h c × (hidden h c ≡ false)
Audited s h (barred c rs ks) =
    FirstOpen s h c × (hidden h c ≡ true) × LeastCut s h c rs ks × Forty s.rows rs × Forty s.columns ks

-- an audit has one answer at most
unfoldable pub OneAnswer : Type 0
OneAnswer = (s : Survey) (h : Pattern) (a b : Answer) → Audited s h a → Audited s h b → a ≡ b

-- a printed cell that lacks something has no witness, so that an audit need look for none
unfoldable pub PrintedOpen : Type 0
PrintedOpen = (s : Survey) (h : Pattern) (c : ℕ) → hidden h c ≡ false → 0 < need s c → Witness s h c → ⊥

-- the rows and columns of the answer are a bar
unfoldable pub BarredByBar : Type 0
BarredByBar = (s : Survey) (h : Pattern) (c : ℕ) (rs ks : List Bool) → Sound s → Audited s h (barred c rs ks) → Bar s h c rs ks

-- the number i after a space, where it is marked
abbrev pub marked : Bool → ℕ → List ℕ
marked mark i = pick mark (32 ∷ decimal i) []

-- the numbers of those marked among the first n, each after a space
unfoldable pub numbered : List Bool → ℕ → List ℕ
numbered marks zero = []
numbered marks (suc n) = numbered marks n ++ marked (slice_index_or marks n false) n

-- the line it prints, as "protected", "open 1 printed" or "open 1 rows 0 columns 2"
abbrev pub audit_line : Answer → List ℕ
audit_line protected = codes "protected"
audit_line (printed c) = codes "open " ++ (decimal c ++ codes " printed")
audit_line (barred c rs ks) =
    codes "open " ++ (decimal c ++ (codes " rows" ++ (numbered rs (length rs) ++ (codes " columns" ++ numbered ks (length ks)))))

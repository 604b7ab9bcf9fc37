-- Why a program stops, and what its end tells. Assumes nothing: these are definitions.
use Rattle.std.specs.Prelude.{◌≡◌, Ok, Err, Result}
use Rattle.survey.specs.declared.refusal.Refusal.{Refusal}
use Rattle.command.specs.declared.talk.Stop.{Stop}
use Rattle.command.specs.declared.talk.Stop.TheVariants.{Call, Input, Output, Refused, Open}

-- the program stops before it has looked at a survey
abbrev pub Unread : Stop → Type 0
Unread Call = Unit {0}
Unread Input = Unit {0}
Unread Output = Unit {0}
Unread (Refused e) = ⊥
Unread Open = ⊥

-- nothing is worked on: only help was asked for, or the program stops before it has looked at a survey
abbrev pub Idle : Result (Unit {0}) Stop → Type 0
Idle (Ok _) = Unit {0}
Idle (Err e) = Unread e

-- a program ends well only where it has an answer, and it stops with the refusal that it was given
abbrev pub Tells : {T : Type 0} → Result T Refusal → Result (Unit {0}) Stop → Type 0
Tells (Ok text) (Ok _) = Unit {0}
Tells (Ok text) (Err e) = e ≡ Output
Tells (Err refusal) (Ok _) = ⊥
Tells (Err refusal) (Err e) = e ≡ Refused refusal

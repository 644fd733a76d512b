-- The first of several reasons.
use Rattle.std.proofs.Common.{◌≡◌, Bool, true, false, List, [], ◌∷◌, Option, None, Some, refl, sym}
use Rattle.std.proofs.lemmas.Option.{none-some}
use Rattle.lang_tree.specs.declared.command.Refusal.{Refusal}
use Rattle.lang_tree.specs.Conditions.{first_reason, when}

-- of one it is that one
pub alone : (o : Option Refusal) → first_reason (o ∷ []) ≡ o
alone None = refl
alone (Some why) = refl

-- where one of two is there, it stays the first with more behind them
pub first_more : (a b : Option Refusal) (later : List (Option Refusal)) (why : Refusal) → first_reason (a ∷ b ∷ []) ≡ Some why → first_reason (a ∷ b ∷ later) ≡ Some why
first_more (Some r) b later why e = e
first_more None (Some r) later why e = e
first_more None None later why e = absurd (none-some why e)

-- where none is there, each is missing
pub no_reason : (o : Option Refusal) (rest : List (Option Refusal)) → first_reason (o ∷ rest) ≡ None → (o ≡ None) × (first_reason rest ≡ None)
no_reason None rest e = (refl, e)
no_reason (Some why) rest e = absurd (none-some why (sym e))

pub no_when : (b : Bool) (why : Refusal) → when b why ≡ None → b ≡ false
no_when true why e = absurd (none-some why (sym e))
no_when false why e = refl

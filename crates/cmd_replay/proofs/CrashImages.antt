-- The image of a crash: it is that of the formatted disk with the log, and where there is none the choice can't be made.
use Rattle.std.proofs.Common.{◌≡◌, ℕ, ◌<◌, ◌&&◌, ◌⊎◌, inl, inr, nat_le, Bool, true, false, not, if◌then◌else◌, List, [], ◌∷◌, length, take, Option, None, Some, option_map, Ok, refl, sym, ap, ◌∙◌, subst}
use Rattle.std.specs.List.{list_all, find}
use Rattle.std.proofs.lemmas.Bool.{cases_Bool}
use Rattle.std.proofs.lemmas.Option.{none-some}
use Rattle.base_types.specs.Seal.{Blocks, blocks_of}
use Rattle.disk_contract.specs.declared.event.Event.{Event}
use Rattle.disk_contract.specs.declared.event.Event.TheVariants.{Wrote, Lost, Noticed}
use Rattle.disk_contract.specs.Cell.{after_all}
use Rattle.disk_contract.specs.Lawful.{AreEventsOf}
use Rattle.layout_geometry.specs.Geometry.{Geometry}
use Rattle.layout_journal.specs.Formatted.{formatted}
use Rattle.disk_memory.specs.declared.choice.Named.{Named}
use Rattle.disk_memory.specs.declared.choice.WriteName.{WriteName}
use Rattle.disk_memory.specs.Choice.{ChoiceState, GivesImage, can_choose, chosen, first_not_pending, is_pending, left_after, pending_writes}
use Rattle.disk_memory.specs.Log.{AreWithin}
use Rattle.cmd_replay.specs.Replays.{LeavesImage}

-- the writes of a disk's events are of its blocks
pub within : (n : ℕ) (log : List Event) → AreEventsOf n log → AreWithin n log
within n [] each = tt
within n (Wrote ticket block bytes ∷ es) each = (each.0.1, within n es each.1)
within n (Lost block bytes ∷ es) each = (each.0.0, within n es each.1)
within n (Noticed ticket ∷ es) each = within n es each.1

-- blocks that are alike at a number are so after a crash
alike : (c : ChoiceState) (base other : Blocks) (log : List Event) (b : ℕ) → base b ≡ other b → chosen c base log b ≡ chosen c other log b
alike c base other log b same =
    ap (λ (x : List ℕ). left_after c b (after_all b (record { settled = x; pending = [] }) log).settled (after_all b (record { settled = x; pending = [] }) log).settled (pending_writes log)) same

-- the image of a disk that began as the formatted one is that of the crash
pub leaves : (g : Geometry) (base : List (List ℕ)) (log : List Event) (moment : ℕ) (c : ChoiceState) (image : List (List ℕ))
    → length base ≡ g.n → ((b : ℕ) → b < g.n → blocks_of base b ≡ formatted g b) → GivesImage base log moment c (Ok image) → LeavesImage g log moment c image
leaves g base log moment c image size same given = record {
  may = given.0;
  is = record {
    count = given.1.count ∙ size;
    each = λ b low. given.1.each b (subst (λ (n : ℕ). b < n) (sym size) low) ∙ alike c (blocks_of base) (formatted g) (take moment log) b (same b low);
  };
}

-- where one of some isn't so, not all are
not_all : {A : Type 0} (p : A → Bool) (xs : List A) (x : A) → find (λ y. not (p y)) xs ≡ Some x → list_all p xs ≡ false
not_all p [] x found = absurd (none-some x found)
not_all p (y ∷ ys) x found = elim (cases_Bool (p y)) as (λ _. (find (λ z. not (p z)) ys ≡ Some x → list_all p ys ≡ false) → (p y && list_all p ys) ≡ false) [
  | inl does ↦ λ later. ap (λ (b : Bool). b && list_all p ys) does ∙ later (sym (ap (λ (b : Bool). if not b then Some y else find (λ z. not (p z)) ys) does) ∙ found)
  | inr doesnt ↦ λ later. ap (λ (b : Bool). b && list_all p ys) doesnt
] (not_all p ys x)

-- where a write isn't pending that is named, the choice can't be made
pub unpending : (c : ChoiceState) (moment : ℕ) (log : List Event) (write : WriteName) → first_not_pending (take moment log) c.named ≡ Some write → can_choose c moment log ≡ false
unpending c moment log write first = by (find (λ n. not (is_pending (take moment log) n.write)) c.named) refl
  where
    both : (b : Bool) → (b && false) ≡ false
    both true = refl
    both false = refl

    by : (o : Option Named) → find (λ n. not (is_pending (take moment log) n.write)) c.named ≡ o → can_choose c moment log ≡ false
    by None none = absurd (none-some write (sym (ap (λ (o : Option Named). option_map (λ n. n.write) o) none) ∙ first))
    by (Some n) some = ap (λ (b : Bool). nat_le moment (length log) && b) (not_all (λ n. is_pending (take moment log) n.write) c.named n some) ∙ both (nat_le moment (length log))

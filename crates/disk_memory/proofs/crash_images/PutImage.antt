-- The image of a choice, from what its steps give: settled places, fates, settled contents, and what is put.
use Rattle.std.proofs.Common.{◌≡◌, ℕ, ◌≤◌, IsTrue, List, length, take, Option, sym, subst}
use Rattle.std.specs.List.{list_all}
use Rattle.std.proofs.lemmas.Bool.{and_from, le-leb}
use Rattle.base_types.specs.Seal.{Blocks}
use Rattle.disk_contract.specs.declared.event.Event.{Event}
use Rattle.disk_memory.specs.declared.choice.Fate.{Fate}
use Rattle.disk_memory.specs.Choice.{ChoiceState, chosen, is_pending, can_choose, AreBlocksOf}
use Rattle.disk_memory.specs.Settled.{AreSettledPlaces, AreFates}
use Rattle.disk_memory.proofs.crash_images.PutWalk.{settled_of}

-- the image of the settled contents is that of the moment, and so of as many events as there are fates
pub settled_there : (n blocks : ℕ) (base : Blocks) (log : List Event) (m j : ℕ) (places lent : List ℕ) (image : List (List ℕ)) → j ≡ m → blocks ≡ n → lent ≡ places → AreSettledPlaces blocks (take m log) places
    → ((k : ℕ) → AreSettledPlaces n (take k log) lent → AreBlocksOf n (settled_of base (take k log)) image) → AreBlocksOf n (settled_of base (take j log)) image
settled_there n blocks base log m j places lent image long count same are gives =
    subst (λ k. AreBlocksOf n (settled_of base (take k log)) image) (sym long)
    (gives m (subst (AreSettledPlaces n (take m log)) (sym same) (subst (λ k. AreSettledPlaces k (take m log) places) count are)))

-- what is put for the fates is what the choice leaves
pub whole : (n : ℕ) (c : ChoiceState) (base : Blocks) (log : List Event) (m : ℕ) (fates lent : List (Option Fate)) (image : List (List ℕ)) → length lent ≡ m → lent ≡ fates → AreFates (take m log) c.all c.named fates
    → ((d : ChoiceState) → AreFates (take (length lent) log) d.all d.named lent → AreBlocksOf n (chosen d base (take (length lent) log)) image) → AreBlocksOf n (chosen c base (take m log)) image
whole n c base log m fates lent image long same are gives =
    let its : AreFates (take (length lent) log) c.all c.named lent = subst (λ k. AreFates (take k log) c.all c.named lent) (sym long) (subst (AreFates (take m log) c.all c.named) (sym same) are) in
    subst (λ k. AreBlocksOf n (chosen c base (take k log)) image) long (gives c its)

-- a choice can be made where the log has the moment and all that it names is pending
pub can : (c : ChoiceState) (m : ℕ) (log : List Event) → m ≤ length log → IsTrue (list_all (λ n. is_pending (take m log) n.write) c.named) → IsTrue (can_choose c m log)
can c m log inside pending = and_from _ _ (le-leb m (length log) inside) pending

-- The fates of a choice's named writes, named one after the other.
use Rattle.std.proofs.Common.{◌≡◌, ℕ, ◌+◌, ◌<◌, ◌≤◌, Bool, true, false, IsTrue, List, [], ◌∷◌, ◌++◌, length, take, drop, get_or, not, cond, zero, suc, Option, Some, option_map, Result, Ok, Err, IfErr, refl, sym, ◌∙◌, ap, subst, arith, length-take}
use Rattle.std.specs.List.{list_all, find}
use Rattle.std.specs.Result.{IsErrAnd}
use Rattle.std.proofs.lemmas.Bool.{and_from, and_parts}
use Rattle.std.proofs.lemmas.List.{take_more, take_all, take_at}
use Rattle.std.proofs.lemmas.List.Folds.{list_all_more}
use Rattle.disk_contract.specs.declared.event.Event.{Event}
use Rattle.disk_memory.specs.declared.choice.Fate.{Fate}
use Rattle.disk_memory.specs.declared.choice.Named.{Named}
use Rattle.disk_memory.specs.declared.choice.WriteName.{WriteName}
use Rattle.disk_memory.specs.declared.choice.ImageRefusal.{ImageRefusal}
use Rattle.disk_memory.specs.declared.choice.ImageRefusal.TheVariants.{NotPending}
use Rattle.disk_memory.specs.Choice.{ChoiceState, is_pending, first_not_pending, Refuses}
use Rattle.disk_memory.specs.Crash.{pending_answer}
use Rattle.disk_memory.specs.Settled.{AreFates}

-- where the answer is Ok, the write is pending
was_pending : (name : WriteName) (told : Bool) (r : Unit {0}) → Ok r ≡ pending_answer name told → told ≡ true
was_pending name true r h = refl
was_pending name false r h = absurd (cc)

-- and where it isn't, the write isn't pending, and is the one that is given
not_pending : (name : WriteName) (told : Bool) (why : ImageRefusal) → Err why ≡ pending_answer name told → (told ≡ false) × (why ≡ NotPending name)
not_pending name true why h = absurd (cc)
not_pending name false why h = (refl, cc)

-- behind names that are pending, a name that isn't is the first such one
first_there : (log : List Event) (ns : List Named) (i : ℕ) (d : Named) → i < length ns → IsTrue (list_all (λ n. is_pending log n.write) (take i ns)) → is_pending log (get_or ns i d).write ≡ false
    → first_not_pending log ns ≡ Some (get_or ns i d).write
first_there log [] i d more pending this = absurd (omega (arith, more))
first_there log (n ∷ ns) zero d more pending this = ap (λ t. option_map (λ (m : Named). m.write) (cond (not t) (Some n) (find (λ m. not (is_pending log m.write)) ns))) this
first_there log (n ∷ ns) (suc i) d more pending this =
    ap (λ t. option_map (λ (m : Named). m.write) (cond (not t) (Some n) (find (λ m. not (is_pending log m.write)) ns))) (and_parts _ _ pending).0
    ∙ first_there log ns i d (omega (arith, more)) (and_parts _ _ pending).1 this

-- so the refusal of the naming of one is that of the whole choice
pub refused : (c : ChoiceState) (m k : ℕ) (log : List Event) (ns : List Named) (i : ℕ) (d : Named) (why : ImageRefusal) → m ≤ length log → i < length ns → k ≡ m → ns ≡ c.named
    → IsTrue (list_all (λ n. is_pending (take m log) n.write) (take i ns)) → Err why ≡ pending_answer (get_or ns i d).write (is_pending (take k log) (get_or ns i d).write) → Refuses c m log why
refused c m k log ns i d why there more count same pending answer =
    let is = not_pending _ _ why answer in
    let this : is_pending (take m log) (get_or ns i d).write ≡ false = subst (λ j. is_pending (take j log) (get_or ns i d).write ≡ false) count is.0 in
    subst (Refuses c m log) (sym is.1) (there, subst (λ l. first_not_pending (take m log) l ≡ Some (get_or ns i d).write) same (first_there (take m log) ns i d more pending this))

-- a refusal that is handed on stays why nothing is made
pub handed_on : {T : Type 0} (r : Result T ImageRefusal) (P : ImageRefusal → Type 0) (why : ImageRefusal) → IsErrAnd r (λ w. w ≡ why) → P why → IfErr r P
handed_on (Ok x) P why is its = tt
handed_on (Err w) P why is its = subst P (sym is) its

-- there are as many fates as events before the moment
pub fates_count : (log : List Event) (m : ℕ) (all : Bool) (said : List Named) (fates lent : List (Option Fate)) → m ≤ length log → lent ≡ fates → AreFates (take m log) all said fates → length lent ≡ m
fates_count log m all said fates lent there same are = omega (arith, ap length same, are.size, length-take m log)

-- one more write is named, and it is pending
pub one_more : (log : List Event) (m : ℕ) (all : Bool) (ns : List Named) (i : ℕ) (d : Named) (fates lent new : List (Option Fate)) (k : ℕ) (r : Unit {0}) → m ≤ length log → i < length ns → k ≡ length lent → lent ≡ fates
    → AreFates (take m log) all (take i ns) fates → IsTrue (list_all (λ n. is_pending (take m log) n.write) (take i ns))
    → Ok r ≡ pending_answer (get_or ns i d).write (is_pending (take (length lent) log) (get_or ns i d).write)
    → ((all : Bool) (said : List Named) → AreFates (take (length lent) log) all said lent → AreFates (take (length lent) log) all (said ++ get_or ns i d ∷ []) new)
    → AreFates (take m log) all (take (i + 1) ns) (take k (new ++ drop (length new) fates)) × IsTrue (list_all (λ n. is_pending (take m log) n.write) (take (i + 1) ns))
one_more log m all ns i d fates lent new k r there more len same are pending answer named =
    let count : length lent ≡ m = fates_count log m all (take i ns) fates lent there same are in
    let lent_are : AreFates (take (length lent) log) all (take i ns) lent = subst (λ j. AreFates (take j log) all (take i ns) lent) (sym count) (subst (AreFates (take m log) all (take i ns)) (sym same) are) in
    let now : AreFates (take m log) all (take i ns ++ get_or ns i d ∷ []) new = subst (λ j. AreFates (take j log) all (take i ns ++ get_or ns i d ∷ []) new) count (named all (take i ns) lent_are) in
    let next : AreFates (take m log) all (take (i + 1) ns) new = subst (λ l. AreFates (take m log) all l new) (sym (take_more ns i d more)) now in
    let row : take k (new ++ drop (length new) fates) ≡ new = take_at new (drop (length new) fates) k (fates_count log m all (take (i + 1) ns) new new there refl next ∙ sym count ∙ sym len) in
    let this : is_pending (take m log) (get_or ns i d).write ≡ true = subst (λ j. is_pending (take j log) (get_or ns i d).write ≡ true) count (was_pending _ _ r answer) in
    (subst (AreFates (take m log) all (take (i + 1) ns)) (sym row) next, list_all_more (λ n. is_pending (take m log) n.write) ns i d more ∙ and_from _ _ pending this)

-- behind the last name all are named
pub all_named : (log : List Event) (all : Bool) (ns named : List Named) (i : ℕ) (fates : List (Option Fate)) → length ns ≤ i → ns ≡ named → AreFates log all (take i ns) fates → AreFates log all named fates
all_named log all ns named i fates past same are = subst (λ l. AreFates log all l fates) (take_all i ns past ∙ same) are

-- and all are pending
pub all_pending : (log : List Event) (ns named : List Named) (i : ℕ) → length ns ≤ i → ns ≡ named → IsTrue (list_all (λ n. is_pending log n.write) (take i ns)) → IsTrue (list_all (λ n. is_pending log n.write) named)
all_pending log ns named i past same are = subst (λ l. IsTrue (list_all (λ n. is_pending log n.write) l)) (take_all i ns past ∙ same) are

-- What a choice says of one block, so that it leaves the block as it is in a torn image.
use Rattle.std.proofs.Common.{◌≡◌, ◌⊎◌, inl, inr, ⊎_elim, ℕ, Bool, true, false, ◌==◌, if◌then◌else◌, List, [], ◌∷◌, map, refl, sym, ◌∙◌, subst}
use Rattle.std.proofs.lemmas.Bool.{eqb-true, cases_Bool}
use Rattle.std.proofs.lemmas.Bool.Decides.{not_from_Decides}
use Rattle.std.proofs.lemmas.Slice.Eq.{bytes_eq-Decides}
use Rattle.std.specs.List.{filter}
use Rattle.std.specs.Str.{bytes_eq}
use Rattle.disk_contract.specs.declared.event.Event.{Event}
use Rattle.disk_contract.specs.Cell.{Write, Cell}
use Rattle.disk_contract.specs.Crash.{AreBytesOf, IsTorn}
use Rattle.disk_contract.specs.Lawful.{IsLawful}
use Rattle.disk_memory.specs.declared.choice.Fate.{Fate}
use Rattle.disk_memory.specs.declared.choice.Fate.TheVariants.{Stands, Torn}
use Rattle.disk_memory.specs.declared.choice.Named.{Named}
use Rattle.disk_memory.specs.Choice.{NamedWrite, pending_writes, left_after}
use Rattle.disk_memory.specs.Torn.{as_write, pending_on, AreFirstBytes}
use Rattle.disk_memory.proofs.crash_images.TornNames.{IsIn, one_pending}
use Rattle.disk_memory.proofs.crash_images.TornLeft.{only, left_of, left_settled, left_named}

-- each of these names a pending write to a block that passes
abbrev pub AreNames : List Event → (ℕ → Type 0) → List Named → Type 0
AreNames log P [] = Unit {0}
AreNames log P (m ∷ ms) = (w : NamedWrite) × IsIn w (pending_writes log) × (m.write ≡ w.name) × P w.block × AreNames log P ms

-- what is said of one block, which leaves these bytes there
pub record Entry (log : List Event) (b : ℕ) (settled x : List ℕ) : Type 0 where
  pub named : List Named
  pub own : AreNames log (λ d. d ≡ b) named
  pub makes : left_after (only named) b settled settled (pending_writes log) ≡ x

-- one of these writes, to the block, of which a fate leaves these bytes
record Leaves (ws : List NamedWrite) (b : ℕ) (settled x : List ℕ) : Type 0 where
  pub write : NamedWrite
  pub fate : Fate
  pub is_in : IsIn write ws
  pub at : write.block ≡ b
  pub left : left_of fate settled write.bytes ≡ x

-- one more write before them
leaves_more : (v : NamedWrite) (ws : List NamedWrite) (b : ℕ) (settled x : List ℕ) → Leaves ws b settled x → Leaves (v ∷ ws) b settled x
leaves_more v ws b settled x l = record { write = l.write; fate = l.fate; is_in = inr l.is_in; at = l.at; left = l.left }

-- where something is so of the writes to the block because of one of them, and a fate of that one leaves these bytes
leaves_some : (Q : List Write → Type 0) (b : ℕ) (settled x : List ℕ) → ¬ Q [] → ((w : NamedWrite) (vs : List Write) → Q (as_write w ∷ vs) → ((f : Fate) × (left_of f settled w.bytes ≡ x)) ⊎ Q vs)
    → (ws : List NamedWrite) → Q (map as_write (filter (λ w. w.block == b) ws)) → Leaves ws b settled x
leaves_some Q b settled x none first [] are = absurd (none are)
leaves_some Q b settled x none first (w ∷ ws) are =
    by (w.block == b) refl (λ rest. leaves_more w ws b settled x (leaves_some Q b settled x none first ws rest)) are
  where
    by : (own : Bool) → (w.block == b) ≡ own → (Q (map as_write (filter (λ w. w.block == b) ws)) → Leaves (w ∷ ws) b settled x)
        → Q (map as_write (if own then w ∷ filter (λ w. w.block == b) ws else filter (λ w. w.block == b) ws)) → Leaves (w ∷ ws) b settled x
    by true own rest are = ⊎_elim (λ here. record { write = w; fate = here.0; is_in = inl refl; at = eqb-true w.block b own; left = here.1 }) rest (first w (map as_write (filter (λ w. w.block == b) ws)) are)
    by false own rest are = rest are

-- bytes of a pending write stand where it stands
leaves_all : (ws : List NamedWrite) (b : ℕ) (settled x : List ℕ) → AreBytesOf (map as_write (filter (λ w. w.block == b) ws)) x → Leaves ws b settled x
leaves_all ws b settled x are = leaves_some (λ vs. AreBytesOf vs x) b settled x (λ none. none) (λ w vs some. ⊎_elim (λ here. inl (Stands, sym here)) (λ rest. inr rest) some) ws are

-- and first bytes of one where it is torn
leaves_first : (ws : List NamedWrite) (b : ℕ) (settled x : List ℕ) → AreFirstBytes settled (map as_write (filter (λ w. w.block == b) ws)) x → Leaves ws b settled x
leaves_first ws b settled x are = leaves_some (λ vs. AreFirstBytes settled vs x) b settled x (λ none. none) (λ w vs some. ⊎_elim (λ here. inl (Torn here.0, sym here.2)) (λ rest. inr rest) some) ws are

-- so that write is named
entry_of : (log : List Event) (b : ℕ) (settled x : List ℕ) → IsLawful log → Leaves (pending_writes log) b settled x → Entry log b settled x
entry_of log b settled x lawful l = record {
  named = record { write = l.write.name; fate = l.fate } ∷ [];
  own = (l.write, l.is_in, refl, l.at, tt);
  makes = left_named b settled l.fate l.write (pending_writes log) l.is_in l.at (λ v i same. one_pending log v l.write lawful i l.is_in same) ∙ l.left;
}

-- bytes are the same or not
same_or : (x y : List ℕ) → (x ≡ y) ⊎ (x ≡ y → ⊥)
same_or x y = ⊎_elim (λ same. inl ((bytes_eq-Decides x y).0 same)) (λ other. inr (not_from_Decides (bytes_eq x y) (bytes_eq-Decides x y) other)) (cases_Bool (bytes_eq x y))

-- and they are those of one of the writes or not
bytes_or : (ws : List Write) (x : List ℕ) → AreBytesOf ws x ⊎ ¬ AreBytesOf ws x
bytes_or [] x = inr (λ are. are)
bytes_or (w ∷ ws) x = ⊎_elim (λ same. inl (inl same)) (λ other. ⊎_elim (λ are. inl (inr are)) (λ none. inr (λ are. ⊎_elim other none are)) (bytes_or ws x)) (same_or x w.bytes)

-- what is said of a block whose cell is this, and that is torn in front or not at all
pub entry : (log : List Event) (b : ℕ) (c : Cell) (x : List ℕ) → IsLawful log → pending_on b log ≡ c.pending → (IsTorn c x → AreFirstBytes c.settled c.pending x) → Entry log b c.settled x
entry log b c x lawful cells torn = ⊎_elim
    (λ same. record { named = []; own = tt; makes = left_settled b c.settled (pending_writes log) ∙ sym same })
    (λ other. ⊎_elim
    (λ are. entry_of log b c.settled x lawful (leaves_all (pending_writes log) b c.settled x (subst (λ (ws : List Write). AreBytesOf ws x) (sym cells) are)))
    (λ none. entry_of log b c.settled x lawful (leaves_first (pending_writes log) b c.settled x (subst (λ (ws : List Write). AreFirstBytes c.settled ws x) (sym cells) (torn (record { not_settled = other; not_written = none })))))
    (bytes_or c.pending x))
    (same_or x c.settled)

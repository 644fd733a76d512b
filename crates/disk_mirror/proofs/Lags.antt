-- A live disk of a mirror lags behind the mirror's log.
use Rattle.std.proofs.Common.{◌≡◌, ◌==◌, ◌⊎◌, inl, inr, ⊎_elim, append_assoc, ℕ, ◌<◌, Bool, true, false, if◌then◌else◌, List, [], ◌∷◌, ◌++◌, map, Option, Some, None, refl, sym, ◌∙◌, ap, subst, append-nil}
use Rattle.std.proofs.lemmas.Bool.{false≢true}
use Rattle.base_types.specs.Seal.{Blocks}
use Rattle.disk_contract.specs.declared.event.Event.{Event}
use Rattle.disk_contract.specs.declared.event.Event.TheVariants.{Wrote, Lost, Noticed}
use Rattle.disk_contract.specs.Cell.{Cell, Write, with_write, after, cell_of, is_noticed, IsWritten, notices}
use Rattle.disk_contract.specs.Lawful.{IsLawful, writes_to}
use Rattle.disk_contract.specs.Logs.{IsWritten-behind as written_right}
use Rattle.disk_mirror.proofs.Logs.{cell_of-append, IsWritten-append}
use Rattle.disk_mirror.specs.declared.entry.Side.{Side}
use Rattle.disk_mirror.specs.declared.entry.Pair.{Pair}
use Rattle.disk_mirror.specs.declared.entry.Heard.{Heard}
use Rattle.disk_mirror.specs.Behind.{chain, Trails, LagsBehind}
use Rattle.disk_mirror.specs.Twin.{has, ticket_on, twin, IsTwin}
use Rattle.disk_mirror.proofs.Chains.{chain-write, trails_self, trails_more, trails_write, trails_notice}
use Rattle.disk_mirror.proofs.Folds.{settled_by, folded, cell_folds}

trails_step : (v w : Bool) → (v ≡ true → w ≡ true) → (m a : Cell) (t u : Option ℕ) (x : List ℕ) → Trails m a → Trails (if v then settled_by x else with_write m t x) (if w then settled_by x else with_write a u x)
trails_step true true both m a t u x tr = trails_self (settled_by x)
trails_step true false both m a t u x tr = absurd (false≢true (both refl))
trails_step false true both m a t u x tr = record { over = chain m; is = chain-write m t x }
trails_step false false both m a t u x tr = trails_write m a t u x tr

-- twins, where all that one reports was noticed on the other
module _ (side : Side) (pairs : List Pair) (reports notes : ℕ → Bool) (over : (i : ℕ) → reports i ≡ true → has notes (ticket_on side pairs (Some i)) ≡ true) where
  both : (t : Option ℕ) → has reports t ≡ true → has notes (ticket_on side pairs t) ≡ true
  both None e = absurd (false≢true e)
  both (Some i) e = over i e

  pub trails_folds : (m a : Cell) (ws : List Write) → Trails m a → Trails (folded reports m ws) (folded notes a (map (twin side pairs) ws))
  trails_folds m a [] t = t
  trails_folds m a (w ∷ ws) t = trails_folds (if has reports w.ticket then settled_by w.bytes else with_write m w.ticket w.bytes) (if has notes (ticket_on side pairs w.ticket) then settled_by w.bytes else with_write a (ticket_on side pairs w.ticket) w.bytes) ws (trails_step (has reports w.ticket) (has notes (ticket_on side pairs w.ticket)) (both w.ticket) m a w.ticket (ticket_on side pairs w.ticket) w.bytes t)

pub behind_of : (n : ℕ) (base began : Blocks) (side : Side) (pairs : List Pair) (rows : List Heard) (log events : List Event)
    → ((b : ℕ) → b < n → began b ≡ base b) → IsLawful log → IsLawful events → IsTwin side pairs rows log events → LagsBehind n base log began events
behind_of n base began side pairs rows log events alike h k t = record {
  alike = alike;
  cells = cells;
  written = t.written;
}
  where
    cells : (b : ℕ) → b < n → Trails (cell_of base log b) (cell_of began events b)
    cells b low =
        let own : cell_of began events b ≡ folded (λ u. is_noticed u events) (settled_by (base b)) (map (twin side pairs) (writes_to b log)) =
        cell_folds began events b k ∙ ap (λ x. folded (λ u. is_noticed u events) (settled_by x) (writes_to b events)) (alike b low) ∙ ap (folded (λ u. is_noticed u events) (settled_by (base b))) (t.writes b) in
        subst (λ c. Trails c (cell_of began events b)) (sym (cell_folds base log b h))
        (subst (λ c. Trails (folded (λ u. is_noticed u log) (settled_by (base b)) (writes_to b log)) c) (sym own)
        (trails_folds side pairs (λ u. is_noticed u log) (λ u. is_noticed u events) t.noticed (settled_by (base b)) (settled_by (base b)) (writes_to b log) (trails_self (settled_by (base b)))))

-- one more write to both
written_parts : (x : List ℕ) (xs ys : List Event) → IsWritten x (xs ++ ys) → IsWritten x xs ⊎ IsWritten x ys
written_parts x [] ys w = inr w
written_parts x (Wrote t b y ∷ xs) ys w = ⊎_elim (λ e. inl (inl e)) (λ r. ⊎_elim (λ l. inl (inr l)) inr (written_parts x xs ys r)) w
written_parts x (Lost b y ∷ xs) ys w = ⊎_elim (λ e. inl (inl e)) (λ r. ⊎_elim (λ l. inl (inr l)) inr (written_parts x xs ys r)) w
written_parts x (Noticed t ∷ xs) ys w = written_parts x xs ys w

-- what is written in longer logs
pub written_more : (log events : List Event) (e f : Event) → ((x : List ℕ) → IsWritten x log → IsWritten x events) → ((x : List ℕ) → IsWritten x (e ∷ []) → IsWritten x (f ∷ [])) → (x : List ℕ) → IsWritten x (log ++ e ∷ []) → IsWritten x (events ++ f ∷ [])
written_more log events e f all last x w = ⊎_elim (λ l. IsWritten-append x events (f ∷ []) (all x l)) (λ r. written_right x events (f ∷ []) (last x r)) (written_parts x log (e ∷ []) w)

-- an event that writes these bytes to a block, accepted or lost
abbrev pub Writes : ℕ → List ℕ → Event → Type 0
Writes d x (Wrote t b y) = (b ≡ d) × (y ≡ x)
Writes d x (Lost b y) = (b ≡ d) × (y ≡ x)
Writes d x (Noticed t) = ⊥

same_put : (b d c e : ℕ) (x y z : List ℕ) (m a : Cell) (t u : Option ℕ) → (c ≡ d) × (y ≡ x) → (e ≡ d) × (z ≡ x) → Trails m a → Trails (if c == b then with_write m t y else m) (if e == b then with_write a u z else a)
same_put b d c e x y z m a t u p q tr =
    subst (λ (k : ℕ). Trails (if k == b then with_write m t y else m) (if e == b then with_write a u z else a)) (sym p.0)
    (subst (λ (k : ℕ). Trails (if d == b then with_write m t y else m) (if k == b then with_write a u z else a)) (sym q.0)
    (subst (λ (l : List ℕ). Trails (if d == b then with_write m t l else m) (if d == b then with_write a u z else a)) (sym p.1)
    (subst (λ (l : List ℕ). Trails (if d == b then with_write m t x else m) (if d == b then with_write a u l else a)) (sym q.1)
    (elim (d == b) as (λ v. Trails (if v then with_write m t x else m) (if v then with_write a u x else a)) [ true ↦ trails_write m a t u x tr | false ↦ tr ]))))

trails_after : (b d : ℕ) (x : List ℕ) (e f : Event) (m a : Cell) → Writes d x e → Writes d x f → Trails m a → Trails (after b m e) (after b a f)
trails_after b d x (Wrote t c y) (Wrote u c' y') m a w v tr = same_put b d c c' x y y' m a (Some t) (Some u) w v tr
trails_after b d x (Wrote t c y) (Lost c' y') m a w v tr = same_put b d c c' x y y' m a (Some t) None w v tr
trails_after b d x (Lost c y) (Wrote u c' y') m a w v tr = same_put b d c c' x y y' m a None (Some u) w v tr
trails_after b d x (Lost c y) (Lost c' y') m a w v tr = same_put b d c c' x y y' m a None None w v tr
trails_after b d x (Noticed t) f m a w v tr = absurd w
trails_after b d x (Wrote t c y) (Noticed u) m a w v tr = absurd v
trails_after b d x (Lost c y) (Noticed u) m a w v tr = absurd v

same_written : (d : ℕ) (x : List ℕ) (e f : Event) → Writes d x e → Writes d x f → (y : List ℕ) → IsWritten y (e ∷ []) → IsWritten y (f ∷ [])
same_written d x (Wrote t c z) (Wrote u c' z') w v y i = ⊎_elim (λ is. inl (v.1 ∙ sym w.1 ∙ is)) (λ r. absurd r) i
same_written d x (Wrote t c z) (Lost c' z') w v y i = ⊎_elim (λ is. inl (v.1 ∙ sym w.1 ∙ is)) (λ r. absurd r) i
same_written d x (Lost c z) (Wrote u c' z') w v y i = ⊎_elim (λ is. inl (v.1 ∙ sym w.1 ∙ is)) (λ r. absurd r) i
same_written d x (Lost c z) (Lost c' z') w v y i = ⊎_elim (λ is. inl (v.1 ∙ sym w.1 ∙ is)) (λ r. absurd r) i
same_written d x (Noticed t) f w v y i = absurd w
same_written d x (Wrote t c z) (Noticed u) w v y i = absurd v
same_written d x (Lost c z) (Noticed u) w v y i = absurd v

pub behind_write : (n : ℕ) (base began : Blocks) (log events : List Event) (d : ℕ) (x : List ℕ) (e f : Event) → Writes d x e → Writes d x f → LagsBehind n base log began events → LagsBehind n base (log ++ e ∷ []) began (events ++ f ∷ [])
behind_write n base began log events d x e f w v l = record {
  alike = l.alike;
  cells = λ b low. subst (λ c. Trails c (cell_of began (events ++ f ∷ []) b)) (sym (cell_of-append base log (e ∷ []) b))
      (subst (λ c. Trails (after b (cell_of base log b) e) c) (sym (cell_of-append began events (f ∷ []) b))
      (trails_after b d x e f (cell_of base log b) (cell_of began events b) w v (l.cells b low)));
  written = written_more log events e f l.written (same_written d x e f w v);
}

-- notices on the disk alone
one_behind : (n : ℕ) (base began : Blocks) (log events : List Event) (t : ℕ) → LagsBehind n base log began events → LagsBehind n base log began (events ++ Noticed t ∷ [])
one_behind n base began log events t l = record {
  alike = l.alike;
  cells = λ b low. subst (λ c. Trails (cell_of base log b) c) (sym (cell_of-append began events (Noticed t ∷ []) b)) (trails_more _ _ _ (l.cells b low) (trails_notice b t (cell_of began events b)));
  written = λ x w. IsWritten-append x events (Noticed t ∷ []) (l.written x w);
}

pub behind_notices : (n : ℕ) (base began : Blocks) (log events : List Event) (ts : List ℕ) → LagsBehind n base log began events → LagsBehind n base log began (events ++ notices ts)
behind_notices n base began log events [] l = subst (λ (es : List Event). LagsBehind n base log began es) (sym (append-nil events)) l
behind_notices n base began log events (t ∷ ts) l = subst (λ (es : List Event). LagsBehind n base log began es) (append_assoc events (Noticed t ∷ []) (notices ts)) (behind_notices n base began log (events ++ Noticed t ∷ []) ts (one_behind n base began log events t l))

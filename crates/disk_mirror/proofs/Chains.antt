-- What two blocks may hold, one lagging behind the other.
use Rattle.std.proofs.Common.{◌≡◌, ◌⊎◌, inl, inr, ⊎_elim, ℕ, ◌<◌, true, false, if◌then◌else◌, List, [], ◌∷◌, ◌++◌, map, length, Option, refl, sym, ◌∙◌, ap, subst, arith, append_assoc, length-append}
use Rattle.disk_contract.specs.declared.event.Event.TheVariants.{Noticed}
use Rattle.disk_contract.specs.Cell.{Write, Cell, is_ticket, from_ticket, settle, with_write, after}
use Rattle.disk_contract.specs.Crash.{AreBytesOf, MayHold, IsTorn}
use Rattle.disk_mirror.specs.Behind.{bytes_in, chain, Trails}

-- these bytes are one of the list
abbrev pub IsIn : List ℕ → List (List ℕ) → Type 0
IsIn x [] = ⊥
IsIn x (y ∷ ys) = (x ≡ y) ⊎ IsIn x ys

pub in_right : (x : List ℕ) (ys zs : List (List ℕ)) → IsIn x zs → IsIn x (ys ++ zs)
in_right x [] zs i = i
in_right x (y ∷ ys) zs i = inr (in_right x ys zs i)

-- the bytes of writes, and of a chain
pub of_writes : (x : List ℕ) (ws : List Write) → IsIn x (map bytes_in ws) → AreBytesOf ws x
of_writes x [] i = i
of_writes x (w ∷ ws) i = ⊎_elim inl (λ r. inr (of_writes x ws r)) i

pub to_writes : (x : List ℕ) (ws : List Write) → AreBytesOf ws x → IsIn x (map bytes_in ws)
to_writes x [] i = i
to_writes x (w ∷ ws) i = ⊎_elim inl (λ r. inr (to_writes x ws r)) i

pub of_chain : (x : List ℕ) (c : Cell) → IsIn x (chain c) → (x ≡ c.settled) ⊎ AreBytesOf c.pending x
of_chain x c i = ⊎_elim inl (λ r. inr (of_writes x c.pending r)) i

pub settled_in : (c : Cell) → IsIn c.settled (chain c)
settled_in c = inl refl

pub pending_in : (x : List ℕ) (c : Cell) → AreBytesOf c.pending x → IsIn x (chain c)
pending_in x c w = inr (to_writes x c.pending w)

pub trailed : (m a : Cell) → Trails m a → (x : List ℕ) → IsIn x (chain a) → IsIn x (chain m)
trailed m a t x i = subst (λ l. IsIn x l) (sym t.is) (in_right x t.over (chain a) i)

-- a trailing block may hold no more
pub length-bytes : (ws : List Write) → length (map bytes_in ws) ≡ length ws
length-bytes [] = refl
length-bytes (w ∷ ws) = omega (arith, length-bytes ws)

pub trailed_some : (m a : Cell) → Trails m a → 0 < length a.pending → 0 < length m.pending
trailed_some m a t some =
    let sizes : length (chain m) ≡ length (t.over ++ chain a) = ap (λ (l : List (List ℕ)). length l) t.is in
    omega (arith, sizes, length-append t.over (chain a), length-bytes m.pending, length-bytes a.pending, some)

pub may_hold : (m a : Cell) → Trails m a → (x : List ℕ) → MayHold a x → MayHold m x
may_hold m a t x h =
    ⊎_elim (λ s. own (trailed m a t x (subst (λ y. IsIn y (chain a)) (sym s) (settled_in a))))
    (λ r. ⊎_elim (λ w. own (trailed m a t x (pending_in x a w))) (λ torn. inr (inr (trailed_some m a t torn.0, torn.1))) r) h
  where
    own : IsIn x (chain m) → MayHold m x
    own i = ⊎_elim inl (λ w. inr (inl w)) (of_chain x m i)

pub torn_too : (m a : Cell) → Trails m a → (x : List ℕ) → IsTorn m x → IsTorn a x
torn_too m a t x torn = record {
  not_settled = λ s. none (trailed m a t x (subst (λ y. IsIn y (chain a)) (sym s) (settled_in a)));
  not_written = λ w. none (trailed m a t x (pending_in x a w));
}
  where
    none : IsIn x (chain m) → ⊥
    none i = ⊎_elim torn.not_settled torn.not_written (of_chain x m i)

-- each block trails itself, and what trails a trailing one trails
pub trails_self : (c : Cell) → Trails c c
trails_self c = record { over = []; is = refl }

pub trails_more : (m a d : Cell) → Trails m a → Trails a d → Trails m d
trails_more m a d t u = record { over = t.over ++ u.over; is = t.is ∙ ap (λ l. t.over ++ l) u.is ∙ sym (append_assoc t.over u.over (chain d)) }

-- one more write to both
pub map-snoc : (ws : List Write) (w : Write) → map bytes_in (ws ++ w ∷ []) ≡ map bytes_in ws ++ w.bytes ∷ []
map-snoc [] w = refl
map-snoc (v ∷ ws) w = ap (λ (l : List (List ℕ)). v.bytes ∷ l) (map-snoc ws w)

pub chain-write : (c : Cell) (t : Option ℕ) (x : List ℕ) → chain (with_write c t x) ≡ chain c ++ x ∷ []
chain-write c t x = ap (λ (l : List (List ℕ)). c.settled ∷ l) (map-snoc c.pending (record { ticket = t; bytes = x }))

pub trails_write : (m a : Cell) (t u : Option ℕ) (x : List ℕ) → Trails m a → Trails (with_write m t x) (with_write a u x)
trails_write m a t u x tr = record { over = tr.over; is = chain-write m t x ∙ ap (λ (l : List (List ℕ)). l ++ x ∷ []) tr.is ∙ append_assoc tr.over (chain a) (x ∷ []) ∙ ap (λ l. tr.over ++ l) (sym (chain-write a u x)) }

-- a notice lets a block trail itself as it was
pub trails_from : (c : Cell) (ws : List Write) (front : List (List ℕ)) → chain c ≡ front ++ map bytes_in ws → (t : ℕ) → Trails c (settle c (from_ticket t ws))
trails_from c [] front is t = trails_self c
trails_from c (w ∷ ws) front is t = elim (is_ticket t w.ticket) as (λ v. Trails c (settle c (if v then w ∷ ws else from_ticket t ws))) [
  | true ↦ record { over = front; is = is }
  | false ↦ trails_from c ws (front ++ w.bytes ∷ []) (is ∙ sym (append_assoc front (w.bytes ∷ []) (map bytes_in ws))) t
]

pub trails_notice : (b t : ℕ) (c : Cell) → Trails c (after b c (Noticed t))
trails_notice b t c = trails_from c c.pending (c.settled ∷ []) refl t

-- A block after a lawful log, by the writes to it and by which of them were noticed.
use Rattle.std.proofs.Common.{◌≡◌, ◌⊎◌, inl, inr, ⊎_elim, ℕ, ◌≤◌, ◌==◌, ◌||◌, Bool, true, false, if◌then◌else◌, List, [], ◌∷◌, ◌++◌, Option, Some, None, refl, sym, ◌∙◌, ap, subst, arith, append-nil, append_assoc}
use Rattle.std.proofs.lemmas.Bool.{eqb-true, eq-eqb, false≢true}
use Rattle.base_types.specs.Seal.{Blocks}
use Rattle.disk_contract.specs.declared.event.Event.{Event}
use Rattle.disk_contract.specs.declared.event.Event.TheVariants.{Wrote, Lost, Noticed}
use Rattle.disk_contract.specs.Cell.{Write, Cell, is_ticket, from_ticket, settle, with_write, after_all, cell_of, greatest_ticket, is_noticed}
use Rattle.disk_contract.specs.Lawful.{AreLawfulAfter, IsLawful, writes_to}
use Rattle.disk_contract.specs.Logs.{accepted_low}
use Rattle.disk_mirror.specs.Twin.{has}
use Rattle.std.proofs.lemmas.Bool.{cond-true, cond-false}
use Rattle.disk_mirror.proofs.Logs.{greatest-append}

abbrev pub settled_by : List ℕ → Cell
settled_by x = record { settled = x; pending = [] }

-- a block gone through these writes: one that was noticed is settled, and another is pending
abbrev pub folded : (ℕ → Bool) → Cell → List Write → Cell
folded noticed c [] = c
folded noticed c (w ∷ ws) = folded noticed (if has noticed w.ticket then settled_by w.bytes else with_write c w.ticket w.bytes) ws

-- no write of the list has this ticket
abbrev pub Lacks : ℕ → List Write → Type 0
Lacks t [] = Unit {0}
Lacks t (w ∷ ws) = (is_ticket t w.ticket ≡ false) × Lacks t ws

abbrev pub AreApart : List Write → Type 0
AreApart [] = Unit {0}
AreApart (w ∷ ws) = ((t : ℕ) → w.ticket ≡ Some t → Lacks t ws) × AreApart ws

pub lacks_append : (t : ℕ) (xs ys : List Write) → Lacks t xs → Lacks t ys → Lacks t (xs ++ ys)
lacks_append t [] ys h k = k
lacks_append t (x ∷ xs) ys h k = (h.0, lacks_append t xs ys h.1 k)

-- writes behind these events have tickets above theirs
pub lacks_behind : (t b : ℕ) (before es : List Event) → AreLawfulAfter before es → t ≤ greatest_ticket before → Lacks t (writes_to b es)
lacks_behind t b before [] h low = tt
lacks_behind t b before (Wrote u d x ∷ es) h low =
    let rest = lacks_behind t b (before ++ Wrote u d x ∷ []) es h.1 (omega (arith, greatest-append before (Wrote u d x ∷ []), low)) in
    elim (d == b) as (λ v. Lacks t (if v then record { ticket = Some u; bytes = x } ∷ writes_to b es else writes_to b es)) [ true ↦ (above, rest) | false ↦ rest ]
  where
    above : (u == t) ≡ false
    above = grind (arith, h.0, low)
lacks_behind t b before (Lost d x ∷ es) h low =
    let rest = lacks_behind t b (before ++ Lost d x ∷ []) es h.1 (omega (arith, greatest-append before (Lost d x ∷ []), low)) in
    elim (d == b) as (λ v. Lacks t (if v then record { ticket = None; bytes = x } ∷ writes_to b es else writes_to b es)) [ true ↦ (refl, rest) | false ↦ rest ]
lacks_behind t b before (Noticed u ∷ es) h low = lacks_behind t b (before ++ Noticed u ∷ []) es h.1 (omega (arith, greatest-append before (Noticed u ∷ []), low))

-- the tickets of the writes to a block are apart
pub apart_behind : (b : ℕ) (before es : List Event) → AreLawfulAfter before es → AreApart (writes_to b es)
apart_behind b before [] h = tt
apart_behind b before (Wrote u d x ∷ es) h =
    let rest = apart_behind b (before ++ Wrote u d x ∷ []) es h.1 in
    let lacks = λ (t : ℕ) (is : Some u ≡ Some t). lacks_behind t b (before ++ Wrote u d x ∷ []) es h.1 (low t is) in
    elim (d == b) as (λ v. AreApart (if v then record { ticket = Some u; bytes = x } ∷ writes_to b es else writes_to b es)) [ true ↦ (lacks, rest) | false ↦ rest ]
  where
    low : (t : ℕ) → Some u ≡ Some t → t ≤ greatest_ticket (before ++ Wrote u d x ∷ [])
    low t is = omega (arith, greatest-append before (Wrote u d x ∷ []), some_is u t is)
      where
        some_is : (u t : ℕ) → Some u ≡ Some t → u ≡ t
        some_is u t is = cc
apart_behind b before (Lost d x ∷ es) h =
    let rest = apart_behind b (before ++ Lost d x ∷ []) es h.1 in
    elim (d == b) as (λ v. AreApart (if v then record { ticket = None; bytes = x } ∷ writes_to b es else writes_to b es)) [ true ↦ (λ t is. absurd (none_is t is), rest) | false ↦ rest ]
  where
    none_is : (t : ℕ) → None ≡ Some t → ⊥
    none_is t is = cc
apart_behind b before (Noticed u ∷ es) h = apart_behind b (before ++ Noticed u ∷ []) es h.1

-- one more noticed ticket, which no write has
pub folded_same : (u : ℕ) (n : ℕ → Bool) (c : Cell) (ws : List Write) → Lacks u ws → folded (λ t. (u == t) || n t) c ws ≡ folded n c ws
folded_same u n c [] l = refl
folded_same u n c (w ∷ ws) l =
    ap (λ v. folded (λ t. (u == t) || n t) (if v then settled_by w.bytes else with_write c w.ticket w.bytes) ws) (same w.ticket l.0) ∙ folded_same u n _ ws l.1
  where
    same : (t : Option ℕ) → is_ticket u t ≡ false → has (λ t. (u == t) || n t) t ≡ has n t
    same None e = refl
    same (Some t) e = ap (λ v. v || n t) (turned u t e)
      where
        turned : (u t : ℕ) → (t == u) ≡ false → (u == t) ≡ false
        turned u t e = grind arith

-- writes one behind the other
pub folded-append : (n : ℕ → Bool) (c : Cell) (xs ys : List Write) → folded n c (xs ++ ys) ≡ folded n (folded n c xs) ys
folded-append n c [] ys = refl
folded-append n c (x ∷ xs) ys = folded-append n _ xs ys

-- the notice of a ticket among pending writes: what stands before it is over
record Found (u : ℕ) (ws : List Write) : Type 0 where
  pub before : List Write
  pub own : Write
  pub later : List Write
  pub split : ws ≡ before ++ own ∷ later
  pub ticket : own.ticket ≡ Some u
  pub from : from_ticket u ws ≡ own ∷ later

record Missing (u : ℕ) (ws : List Write) : Type 0 where
  pub lacks : Lacks u ws
  pub from : from_ticket u ws ≡ []

found_or : (u : ℕ) (ws : List Write) → Found u ws ⊎ Missing u ws
found_or u [] = inr (record { lacks = tt; from = refl })
found_or u (w ∷ ws) = by (is_ticket u w.ticket) refl (found_or u ws)
  where
    own : (t : Option ℕ) → is_ticket u t ≡ true → t ≡ Some u
    own None e = absurd (false≢true e)
    own (Some t) e = ap (λ v. Some v) (eqb-true t u e)

    by : (v : Bool) → is_ticket u w.ticket ≡ v → Found u ws ⊎ Missing u ws → Found u (w ∷ ws) ⊎ Missing u (w ∷ ws)
    by true e rest = inl (record { before = []; own = w; later = ws; split = refl; ticket = own w.ticket e; from = cond-true _ _ _ e })
    by false e rest = ⊎_elim
        (λ f. inl (record { before = w ∷ f.before; own = f.own; later = f.later; split = ap (λ (l : List Write). w ∷ l) f.split; ticket = f.ticket; from = cond-false _ _ _ e ∙ f.from }))
        (λ m. inr (record { lacks = (e, m.lacks); from = cond-false _ _ _ e ∙ m.from })) rest

apart_part : (xs ys : List Write) → AreApart (xs ++ ys) → AreApart ys
apart_part [] ys h = h
apart_part (x ∷ xs) ys h = apart_part xs ys h.1

has_none : (o : Option ℕ) → has (λ t. false) o ≡ false
has_none None = refl
has_none (Some t) = refl

-- where nothing was noticed, all is pending
folded_none : (c : Cell) (ws : List Write) → folded (λ t. false) c ws ≡ record { settled = c.settled; pending = c.pending ++ ws }
folded_none c [] = ap (λ (l : List Write). record { settled = c.settled; pending = l }) (sym (append-nil c.pending))
folded_none c (w ∷ ws) =
    ap (λ v. folded (λ t. false) (if v then settled_by w.bytes else with_write c w.ticket w.bytes) ws) (has_none w.ticket)
    ∙ folded_none (with_write c w.ticket w.bytes) ws ∙ ap (λ (l : List Write). record { settled = c.settled; pending = l }) (append_assoc c.pending (w ∷ []) ws)

-- a block goes through lawful events as its writes do
pub folds : (b : ℕ) (before es : List Event) (s : List ℕ) (p : List Write) → AreLawfulAfter before es → AreApart (p ++ writes_to b es)
    → after_all b (record { settled = s; pending = p }) es ≡ folded (λ t. is_noticed t es) (settled_by s) (p ++ writes_to b es)
folds b before [] s p h apart = sym (folded_none (settled_by s) (p ++ []) ∙ ap (λ (l : List Write). record { settled = s; pending = l }) (append-nil p))
folds b before (Wrote t d x ∷ es) s p h apart =
    let w : Write = record { ticket = Some t; bytes = x } in
    elim (d == b) as (λ v. AreApart (p ++ (if v then w ∷ writes_to b es else writes_to b es))
    → after_all b (if v then with_write (record { settled = s; pending = p }) (Some t) x else record { settled = s; pending = p }) es ≡ folded (λ u. is_noticed u es) (settled_by s) (p ++ (if v then w ∷ writes_to b es else writes_to b es))) [
      | true ↦ λ a. folds b (before ++ Wrote t d x ∷ []) es s (p ++ w ∷ []) h.1 (subst AreApart (sym (append_assoc p (w ∷ []) (writes_to b es))) a)
          ∙ ap (folded (λ u. is_noticed u es) (settled_by s)) (append_assoc p (w ∷ []) (writes_to b es))
      | false ↦ λ a. folds b (before ++ Wrote t d x ∷ []) es s p h.1 a
    ] apart
folds b before (Lost d x ∷ es) s p h apart =
    let w : Write = record { ticket = None; bytes = x } in
    elim (d == b) as (λ v. AreApart (p ++ (if v then w ∷ writes_to b es else writes_to b es))
    → after_all b (if v then with_write (record { settled = s; pending = p }) None x else record { settled = s; pending = p }) es ≡ folded (λ u. is_noticed u es) (settled_by s) (p ++ (if v then w ∷ writes_to b es else writes_to b es))) [
      | true ↦ λ a. folds b (before ++ Lost d x ∷ []) es s (p ++ w ∷ []) h.1 (subst AreApart (sym (append_assoc p (w ∷ []) (writes_to b es))) a)
          ∙ ap (folded (λ u. is_noticed u es) (settled_by s)) (append_assoc p (w ∷ []) (writes_to b es))
      | false ↦ λ a. folds b (before ++ Lost d x ∷ []) es s p h.1 a
    ] apart
folds b before (Noticed u ∷ es) s p h apart =
    let rest = λ (x : List ℕ) (q : List Write) (a : AreApart (q ++ writes_to b es)). folds b (before ++ Noticed u ∷ []) es x q h.1 a in
    ⊎_elim (by_found rest) (by_missing rest) (found_or u p)
  where
    later_low : u ≤ greatest_ticket (before ++ Noticed u ∷ [])
    later_low = omega (arith, greatest-append before (Noticed u ∷ []), accepted_low u before h.0.0)

    by_found : ((x : List ℕ) (q : List Write) → AreApart (q ++ writes_to b es) → after_all b (record { settled = x; pending = q }) es ≡ folded (λ t. is_noticed t es) (settled_by x) (q ++ writes_to b es)) → Found u p → after_all b (settle (record { settled = s; pending = p }) (from_ticket u p)) es ≡ folded (λ t. (u == t) || is_noticed t es) (settled_by s) (p ++ writes_to b es)
    by_found rec f =
        let parts : p ++ writes_to b es ≡ f.before ++ f.own ∷ (f.later ++ writes_to b es) = ap (λ (l : List Write). l ++ writes_to b es) f.split ∙ append_assoc f.before (f.own ∷ f.later) (writes_to b es) in
        let rest = apart_part f.before (f.own ∷ (f.later ++ writes_to b es)) (subst AreApart parts apart) in
        let mine : has (λ t. (u == t) || is_noticed t es) f.own.ticket ≡ true = ap (has (λ t. (u == t) || is_noticed t es)) f.ticket ∙ ap (λ v. v || is_noticed u es) (eq-eqb u u refl) in
        ap (λ (ws : List Write). after_all b (settle (record { settled = s; pending = p }) ws) es) f.from
        ∙ rec f.own.bytes f.later rest.1
        ∙ sym (folded_same u (λ t. is_noticed t es) (settled_by f.own.bytes) (f.later ++ writes_to b es) (rest.0 u f.ticket))
        ∙ sym (ap (folded (λ t. (u == t) || is_noticed t es) (settled_by s)) parts
        ∙ folded-append (λ t. (u == t) || is_noticed t es) (settled_by s) f.before (f.own ∷ (f.later ++ writes_to b es))
        ∙ ap (λ v. folded (λ t. (u == t) || is_noticed t es) (if v then settled_by f.own.bytes else with_write (folded (λ t. (u == t) || is_noticed t es) (settled_by s) f.before) f.own.ticket f.own.bytes) (f.later ++ writes_to b es)) mine)

    by_missing : ((x : List ℕ) (q : List Write) → AreApart (q ++ writes_to b es) → after_all b (record { settled = x; pending = q }) es ≡ folded (λ t. is_noticed t es) (settled_by x) (q ++ writes_to b es)) → Missing u p → after_all b (settle (record { settled = s; pending = p }) (from_ticket u p)) es ≡ folded (λ t. (u == t) || is_noticed t es) (settled_by s) (p ++ writes_to b es)
    by_missing rec m =
        ap (λ (ws : List Write). after_all b (settle (record { settled = s; pending = p }) ws) es) m.from
        ∙ rec s p apart
        ∙ sym (folded_same u (λ t. is_noticed t es) (settled_by s) (p ++ writes_to b es) (lacks_append u p (writes_to b es) m.lacks (lacks_behind u b (before ++ Noticed u ∷ []) es h.1 later_low)))

pub cell_folds : (base : Blocks) (log : List Event) (b : ℕ) → IsLawful log → cell_of base log b ≡ folded (λ t. is_noticed t log) (settled_by (base b)) (writes_to b log)
cell_folds base log b h = folds b [] log (base b) [] h (apart_behind b [] log h)

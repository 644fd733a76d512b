-- Lemmas on logs that are joined, that crates above cite too. They add no meaning to the promises.
use Rattle.std.proofs.Common.{◌≡◌, ◌≢◌, ◌⊎◌, inl, inr, ⊎_elim, ℕ, ◌+◌, ◌≤◌, max, true, false, ◌==◌, ◌||◌, if◌then◌else◌, List, [], ◌∷◌, ◌++◌, Some, None, refl, sym, ◌∙◌, ap, subst, arith, append-nil, append_assoc}
use Rattle.std.proofs.lemmas.Bool.{eqb-true, eq-eqb, or_cases, false≢true, cond-false, or_left, or_right, ne_eqb}
use Rattle.std.proofs.Math.Bool.{or_assoc}
use Rattle.base_types.specs.Seal.{Blocks}
use Rattle.disk_contract.specs.declared.event.Event.{Event}
use Rattle.disk_contract.specs.declared.event.Event.TheVariants.{Wrote, Lost, Noticed}
use Rattle.disk_contract.specs.Cell.{Write, Cell, after, after_all, cell_of, accepted_from, greatest_ticket, is_noticed, IsAccepted, IsNoticed, IsWritten, notices}
use Rattle.disk_contract.specs.Disk.{writes_in}
use Rattle.disk_contract.specs.Lawful.{MayCome, AreLawfulAfter, IsLawful, IsWriteOf, writes_to}

-- a cell goes through two lists of events one after the other
pub after_all-append : (b : ℕ) (c : Cell) (xs ys : List Event) → after_all b c (xs ++ ys) ≡ after_all b (after_all b c xs) ys
after_all-append b c [] ys = refl
after_all-append b c (x ∷ xs) ys = after_all-append b (after b c x) xs ys

-- the cell after a longer log is the cell of the log, gone through what came behind
pub cell_of-append : (base : Blocks) (log more : List Event) (b : ℕ) → cell_of base (log ++ more) b ≡ after_all b (cell_of base log b) more
cell_of-append base log more b = after_all-append b _ log more

-- an event on another block
pub other_wrote : (base : Blocks) (log : List Event) (t a b : ℕ) (x : List ℕ) → a ≢ b → cell_of base (log ++ Wrote t a x ∷ []) b ≡ cell_of base log b
other_wrote base log t a b x apart = cell_of-append base log _ b ∙ cond-false (a == b) _ _ (ne_eqb a b apart)

-- and a lost write to another block changes nothing either
pub other_lost : (base : Blocks) (log : List Event) (a b : ℕ) (x : List ℕ) → a ≢ b → cell_of base (log ++ Lost a x ∷ []) b ≡ cell_of base log b
other_lost base log a b x apart = cell_of-append base log _ b ∙ cond-false (a == b) _ _ (ne_eqb a b apart)

-- the last accepted bytes go through two lists one after the other
pub accepted_from-append : (b : ℕ) (x : List ℕ) (xs ys : List Event) → accepted_from b x (xs ++ ys) ≡ accepted_from b (accepted_from b x xs) ys
accepted_from-append b x [] ys = refl
accepted_from-append b x (Wrote u c y ∷ xs) ys = accepted_from-append b (if c == b then y else x) xs ys
accepted_from-append b x (Lost c y ∷ xs) ys = accepted_from-append b x xs ys
accepted_from-append b x (Noticed u ∷ xs) ys = accepted_from-append b x xs ys

-- what was written stays so in a longer log
pub IsWritten-append : (x : List ℕ) (xs ys : List Event) → IsWritten x xs → IsWritten x (xs ++ ys)
IsWritten-append x [] ys h = absurd h
IsWritten-append x (Wrote t b y ∷ xs) ys h = ⊎_elim inl (λ r. inr (IsWritten-append x xs ys r)) h
IsWritten-append x (Lost b y ∷ xs) ys h = ⊎_elim inl (λ r. inr (IsWritten-append x xs ys r)) h
IsWritten-append x (Noticed t ∷ xs) ys h = IsWritten-append x xs ys h

-- and so does what was written in the later one
pub IsWritten-behind : (x : List ℕ) (xs ys : List Event) → IsWritten x ys → IsWritten x (xs ++ ys)
IsWritten-behind x [] ys w = w
IsWritten-behind x (Wrote t b y ∷ xs) ys w = inr (IsWritten-behind x xs ys w)
IsWritten-behind x (Lost b y ∷ xs) ys w = inr (IsWritten-behind x xs ys w)
IsWritten-behind x (Noticed t ∷ xs) ys w = IsWritten-behind x xs ys w

-- a notice in two lists is in one of them
pub IsNoticed-append : (t : ℕ) (xs ys : List Event) → IsNoticed t (xs ++ ys) → IsNoticed t xs ⊎ IsNoticed t ys
IsNoticed-append t [] ys h = inr h
IsNoticed-append t (Wrote u b y ∷ xs) ys h = IsNoticed-append t xs ys h
IsNoticed-append t (Lost b y ∷ xs) ys h = IsNoticed-append t xs ys h
IsNoticed-append t (Noticed u ∷ xs) ys h =
    ⊎_elim (λ e. inl (or_left _ _ e)) (λ r. ⊎_elim (λ p. inl (or_right _ _ p)) inr (IsNoticed-append t xs ys r)) (or_cases _ _ h)

-- laws of the tests on a longer log
pub is_noticed-append : (t : ℕ) (xs ys : List Event) → is_noticed t (xs ++ ys) ≡ (is_noticed t xs || is_noticed t ys)
is_noticed-append t [] ys = refl
is_noticed-append t (Wrote u b y ∷ xs) ys = is_noticed-append t xs ys
is_noticed-append t (Lost b y ∷ xs) ys = is_noticed-append t xs ys
is_noticed-append t (Noticed u ∷ xs) ys = ap (λ r. (u == t) || r) (is_noticed-append t xs ys) ∙ sym (or_assoc (u == t) (is_noticed t xs) (is_noticed t ys))

-- what is noticed stays so in a longer log
pub IsNoticed-more : (t : ℕ) (xs ys : List Event) → IsNoticed t xs → IsNoticed t (xs ++ ys)
IsNoticed-more t xs ys h = is_noticed-append t xs ys ∙ or_left _ _ h

-- the notices of two lists of tickets are those of the first and those of the second
pub notices-append : (ts us : List ℕ) → notices (ts ++ us) ≡ notices ts ++ notices us
notices-append [] us = refl
notices-append (t ∷ ts) us = ap (λ (es : List Event). Noticed t ∷ es) (notices-append ts us)

-- the greatest ticket of two lists is the greater of theirs
pub greatest-append : (xs ys : List Event) → greatest_ticket (xs ++ ys) ≡ max (greatest_ticket xs) (greatest_ticket ys)
greatest-append [] ys = omega arith
greatest-append (Wrote u b y ∷ xs) ys = omega (arith, greatest-append xs ys)
greatest-append (Lost b y ∷ xs) ys = greatest-append xs ys
greatest-append (Noticed u ∷ xs) ys = greatest-append xs ys

-- tickets in a lawful log
pub accepted_low : (t : ℕ) (xs : List Event) → IsAccepted t xs → t ≤ greatest_ticket xs
accepted_low t [] a = absurd (false≢true a)
accepted_low t (Wrote u b x ∷ xs) a = ⊎_elim (λ e. let same = eqb-true u t e in omega arith) (λ r. let low = accepted_low t xs r in omega arith) (or_cases _ _ a)
accepted_low t (Lost b x ∷ xs) a = accepted_low t xs a
accepted_low t (Noticed u ∷ xs) a = accepted_low t xs a

-- what was accepted stays so in a longer log
pub IsAccepted-more : (t : ℕ) (xs ys : List Event) → IsAccepted t xs → IsAccepted t (xs ++ ys)
IsAccepted-more t [] ys h = absurd (false≢true h)
IsAccepted-more t (Wrote u b x ∷ xs) ys h = ⊎_elim (λ own. or_left _ _ own) (λ r. or_right _ _ (IsAccepted-more t xs ys r)) (or_cases _ _ h)
IsAccepted-more t (Lost b x ∷ xs) ys h = IsAccepted-more t xs ys h
IsAccepted-more t (Noticed u ∷ xs) ys h = IsAccepted-more t xs ys h

-- and a write that came last is accepted
pub IsAccepted-last : (t b : ℕ) (x : List ℕ) (log : List Event) → IsAccepted t (log ++ Wrote t b x ∷ [])
IsAccepted-last t b x [] = or_left _ _ (eq-eqb t t refl)
IsAccepted-last t b x (Wrote u c y ∷ es) = or_right _ _ (IsAccepted-last t b x es)
IsAccepted-last t b x (Lost c y ∷ es) = IsAccepted-last t b x es
IsAccepted-last t b x (Noticed u ∷ es) = IsAccepted-last t b x es

-- lawful events behind lawful ones are lawful together
pub lawful_more : (before xs ys : List Event) → AreLawfulAfter before xs → AreLawfulAfter (before ++ xs) ys → AreLawfulAfter before (xs ++ ys)
lawful_more before [] ys h k = subst (λ (l : List Event). AreLawfulAfter l ys) (append-nil before) k
lawful_more before (x ∷ xs) ys h k = (h.0, lawful_more (before ++ x ∷ []) xs ys h.1 (subst (λ (l : List Event). AreLawfulAfter l ys) (sym (append_assoc before (x ∷ []) xs)) k))

-- the later part of lawful events is lawful behind the earlier one
pub lawful_behind : (before xs ys : List Event) → AreLawfulAfter before (xs ++ ys) → AreLawfulAfter (before ++ xs) ys
lawful_behind before [] ys h = subst (λ (l : List Event). AreLawfulAfter l ys) (sym (append-nil before)) h
lawful_behind before (x ∷ xs) ys h = subst (λ (l : List Event). AreLawfulAfter l ys) (append_assoc before (x ∷ []) xs) (lawful_behind (before ++ x ∷ []) xs ys h.1)

-- and the earlier part of lawful events is lawful by itself
pub lawful_front : (before xs ys : List Event) → AreLawfulAfter before (xs ++ ys) → AreLawfulAfter before xs
lawful_front before [] ys h = tt
lawful_front before (x ∷ xs) ys h = (h.0, lawful_front (before ++ x ∷ []) xs ys h.1)

-- one more event that may come
pub lawful_event : (log : List Event) (e : Event) → IsLawful log → MayCome log e → IsLawful (log ++ e ∷ [])
lawful_event log e h may = lawful_more [] log (e ∷ []) h (may, tt)

-- a write that is in two lists is in one of them
pub write_parts : (u b : ℕ) (xs ys : List Event) → IsWriteOf u b (xs ++ ys) → IsWriteOf u b xs ⊎ IsWriteOf u b ys
write_parts u b [] ys w = inr w
write_parts u b (Wrote t d x ∷ xs) ys w = ⊎_elim (λ p. inl (inl p)) (λ r. ⊎_elim (λ l. inl (inr l)) inr (write_parts u b xs ys r)) w
write_parts u b (Lost d x ∷ xs) ys w = write_parts u b xs ys w
write_parts u b (Noticed t ∷ xs) ys w = write_parts u b xs ys w

-- the writes to a block in two lists are those of the first and those of the second
pub writes_append : (b : ℕ) (xs ys : List Event) → writes_to b (xs ++ ys) ≡ writes_to b xs ++ writes_to b ys
writes_append b [] ys = refl
writes_append b (Wrote t d x ∷ xs) ys = elim (d == b) as (λ v. (if v then record { ticket = Some t; bytes = x } ∷ writes_to b (xs ++ ys) else writes_to b (xs ++ ys)) ≡ (if v then record { ticket = Some t; bytes = x } ∷ writes_to b xs else writes_to b xs) ++ writes_to b ys)
    [ true ↦ ap (λ (l : List Write). record { ticket = Some t; bytes = x } ∷ l) (writes_append b xs ys) | false ↦ writes_append b xs ys ]
writes_append b (Lost d x ∷ xs) ys = elim (d == b) as (λ v. (if v then record { ticket = None; bytes = x } ∷ writes_to b (xs ++ ys) else writes_to b (xs ++ ys)) ≡ (if v then record { ticket = None; bytes = x } ∷ writes_to b xs else writes_to b xs) ++ writes_to b ys)
    [ true ↦ ap (λ (l : List Write). record { ticket = None; bytes = x } ∷ l) (writes_append b xs ys) | false ↦ writes_append b xs ys ]
writes_append b (Noticed t ∷ xs) ys = writes_append b xs ys

-- so many writes are in two logs as in the first and in the second
pub writes_in-append : (xs ys : List Event) → writes_in (xs ++ ys) ≡ writes_in xs + writes_in ys
writes_in-append [] ys = omega arith
writes_in-append (Wrote t b x ∷ xs) ys = omega (arith, writes_in-append xs ys)
writes_in-append (Lost b x ∷ xs) ys = omega (arith, writes_in-append xs ys)
writes_in-append (Noticed t ∷ xs) ys = writes_in-append xs ys

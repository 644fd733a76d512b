-- After a lawful log, what is settled is the noticed write with the greatest ticket.
use Rattle.std.proofs.Common.{◌≡◌, ◌⊎◌, inl, inr, ⊎_elim, ℕ, ◌<◌, ◌≤◌, Bool, true, false, ◌==◌, if◌then◌else◌, List, [], ◌∷◌, ◌++◌, Option, Some, None, Result, Ok, Err, refl, sym, ◌∙◌, ap, subst, arith, append-nil, append_assoc}
use Rattle.std.proofs.lemmas.Bool.{eqb-true, eqb-false, eq-eqb, or_cases, or_left, or_right, false≢true, cond-true, cond-false}
use Rattle.base_types.specs.Seal.{Blocks}
use Rattle.disk_contract.specs.declared.event.Event.{Event}
use Rattle.disk_contract.specs.declared.event.Event.TheVariants.{Wrote, Lost, Noticed}
use Rattle.disk_contract.specs.Cell.{Write, Cell, from_ticket, settle, with_write, after, cell_of, greatest_ticket, IsAccepted, IsNoticed, notices}
use Rattle.disk_contract.specs.Disk.{AddsWrite, AddsPoll, AddsNotices, AreOpen}
use Rattle.disk_contract.specs.Lawful.{MayCome, AreLawfulAfter, IsLawful, writes_to, IsWriteOf, IsNewestNoticed, HasNoneNoticed}
use Rattle.disk_contract.specs.Logs.{accepted_low, cell_of-append, greatest-append, IsNoticed-append, is_noticed-append, lawful_behind, lawful_event, lawful_more, write_parts, writes_append}

-- the rules of a disk keep its log lawful
pub lawful_write : {E : Type 0} (b : ℕ) (x : List ℕ) (r : Result ℕ E) (old new : List Event) → IsLawful old → AddsWrite b x r old new → IsLawful new
lawful_write b x (Ok n) old new h adds = subst IsLawful (sym adds.2) (lawful_event old (Wrote n b x) h adds.0)
lawful_write b x (Err e) old new h adds = ⊎_elim (λ same. subst IsLawful (sym same) h) (λ lost. subst IsLawful (sym lost) (lawful_event old (Lost b x) h tt)) adds

-- a poll adds the notice of an open ticket or nothing
pub lawful_poll : {E : Type 0} (r : Result (Option ℕ) E) (old new : List Event) → IsLawful old → AddsPoll r old new → IsLawful new
lawful_poll (Ok (Some n)) old new h adds = subst IsLawful (sym adds.1) (lawful_event old (Noticed n) h adds.0)
lawful_poll (Ok None) old new h adds = subst IsLawful (sym adds) h
lawful_poll (Err e) old new h adds = subst IsLawful (sym adds) h

-- notices of open tickets are lawful one after the other
open_lawful : (ts : List ℕ) (old : List Event) → AreOpen ts old → AreLawfulAfter old (notices ts)
open_lawful [] old o = tt
open_lawful (t ∷ ts) old o = (o.0, open_lawful ts (old ++ Noticed t ∷ []) o.1)

-- and a wait adds only such
pub lawful_wait : (old new : List Event) → IsLawful old → AddsNotices old new → IsLawful new
lawful_wait old new h adds = subst IsLawful (sym adds.log) (lawful_more [] old (notices adds.tickets) h (open_lawful adds.tickets old adds.open_before))

-- a noticed ticket is at most the greatest, since it was given
noticed_low : (before xs : List Event) (t : ℕ) → AreLawfulAfter before xs → IsNoticed t xs → t ≤ greatest_ticket (before ++ xs)
noticed_low before [] t h n = absurd (false≢true n)
noticed_low before (Wrote u b x ∷ xs) t h n = let low = noticed_low (before ++ Wrote u b x ∷ []) xs t h.1 n in subst (λ (l : List Event). t ≤ greatest_ticket l) (append_assoc before (Wrote u b x ∷ []) xs) low
noticed_low before (Lost b x ∷ xs) t h n = let low = noticed_low (before ++ Lost b x ∷ []) xs t h.1 n in subst (λ (l : List Event). t ≤ greatest_ticket l) (append_assoc before (Lost b x ∷ []) xs) low
noticed_low before (Noticed u ∷ xs) t h n =
    ⊎_elim (λ e. let same = eqb-true u t e in let low = accepted_low u before h.0.0 in let all = greatest-append before (Noticed u ∷ xs) in omega arith)
    (λ r. subst (λ (l : List Event). t ≤ greatest_ticket l) (append_assoc before (Noticed u ∷ []) xs) (noticed_low (before ++ Noticed u ∷ []) xs t h.1 r)) (or_cases _ _ n)

-- the ticket of a write that stands among events is at most their greatest
write_low : (u b : ℕ) (xs : List Event) → IsWriteOf u b xs → u ≤ greatest_ticket xs
write_low u b [] w = absurd w
write_low u b (Wrote t d x ∷ xs) w = ⊎_elim (λ p. omega (arith, p.0)) (λ r. let low = write_low u b xs r in omega arith) w
write_low u b (Lost d x ∷ xs) w = write_low u b xs w
write_low u b (Noticed t ∷ xs) w = write_low u b xs w

-- the tickets of later writes are above all earlier ones
write_above : (before xs : List Event) (u b : ℕ) → AreLawfulAfter before xs → IsWriteOf u b xs → greatest_ticket before < u
write_above before [] u b h w = absurd w
write_above before (Wrote t d x ∷ xs) u b h w = ⊎_elim (λ p. let low = h.0 in omega (arith, p.0)) (λ r. let low = write_above (before ++ Wrote t d x ∷ []) xs u b h.1 r in let all = greatest-append before (Wrote t d x ∷ []) in omega arith) w
write_above before (Lost d x ∷ xs) u b h w = let low = write_above (before ++ Lost d x ∷ []) xs u b h.1 w in let all = greatest-append before (Lost d x ∷ []) in omega arith
write_above before (Noticed t ∷ xs) u b h w = let low = write_above (before ++ Noticed t ∷ []) xs u b h.1 w in let all = greatest-append before (Noticed t ∷ []) in omega arith

-- and one of the second list is in both
write_right : (u b : ℕ) (xs ys : List Event) → IsWriteOf u b ys → IsWriteOf u b (xs ++ ys)
write_right u b [] ys w = w
write_right u b (Wrote t d x ∷ xs) ys w = inr (write_right u b xs ys w)
write_right u b (Lost d x ∷ xs) ys w = write_right u b xs ys w
write_right u b (Noticed t ∷ xs) ys w = write_right u b xs ys w

-- the first write with a ticket among those to a block, or none
record Found (n b : ℕ) (es : List Event) : Type 0 where
  pub before : List Event
  pub bytes : List ℕ
  pub later : List Event
  pub split : es ≡ before ++ (Wrote n b bytes ∷ later)
  pub from : from_ticket n (writes_to b es) ≡ record { ticket = Some n; bytes = bytes } ∷ writes_to b later

record Missing (n b : ℕ) (es : List Event) : Type 0 where
  pub from : from_ticket n (writes_to b es) ≡ []
  pub none : ¬ IsWriteOf n b es

-- each ticket is found among the writes to a block, or it is none of theirs
found_or : (n b : ℕ) (es : List Event) → Found n b es ⊎ Missing n b es
found_or n b [] = inr (record { from = refl; none = λ w. w })
found_or n b (Noticed t ∷ es) = ⊎_elim (λ f. inl (record { before = Noticed t ∷ f.before; bytes = f.bytes; later = f.later; split = ap (λ (l : List Event). Noticed t ∷ l) f.split; from = f.from })) (λ m. inr (record { from = m.from; none = m.none })) (found_or n b es)
found_or n b (Lost d x ∷ es) = ⊎_elim (λ f. inl (record { before = Lost d x ∷ f.before; bytes = f.bytes; later = f.later; split = ap (λ (l : List Event). Lost d x ∷ l) f.split; from = skip (d == b) ∙ f.from }))
    (λ m. inr (record { from = skip (d == b) ∙ m.from; none = m.none })) (found_or n b es)
  where
    skip : (v : Bool) → from_ticket n (if v then record { ticket = None; bytes = x } ∷ writes_to b es else writes_to b es) ≡ from_ticket n (writes_to b es)
    skip true = refl
    skip false = refl
found_or n b (Wrote t d x ∷ es) = by (d == b) (t == n) refl refl (found_or n b es)
  where
    by : (v w : Bool) → (d == b) ≡ v → (t == n) ≡ w → Found n b es ⊎ Missing n b es → Found n b (Wrote t d x ∷ es) ⊎ Missing n b (Wrote t d x ∷ es)
    by true true at is rest =
        inl (record {
          before = [];
          bytes = x;
          later = es;
          split = ap (λ u. Wrote u d x ∷ es) (eqb-true t n is) ∙ ap (λ c. Wrote n c x ∷ es) (eqb-true d b at);
          from = ap (from_ticket n) (cond-true (d == b) _ _ at) ∙ cond-true (t == n) _ _ is ∙ ap (λ u. record { ticket = Some u; bytes = x } ∷ writes_to b es) (eqb-true t n is);
        })
    by true false at is rest =
        let skip : from_ticket n (writes_to b (Wrote t d x ∷ es)) ≡ from_ticket n (writes_to b es) = ap (from_ticket n) (cond-true (d == b) _ _ at) ∙ cond-false (t == n) _ _ is in
        ⊎_elim (λ f. inl (record { before = Wrote t d x ∷ f.before; bytes = f.bytes; later = f.later; split = ap (λ (l : List Event). Wrote t d x ∷ l) f.split; from = skip ∙ f.from }))
        (λ m. inr (record { from = skip ∙ m.from; none = λ w. ⊎_elim (λ p. eqb-false t n is p.0) m.none w })) rest
    by false w at is rest =
        let skip : from_ticket n (writes_to b (Wrote t d x ∷ es)) ≡ from_ticket n (writes_to b es) = ap (from_ticket n) (cond-false (d == b) _ _ at) in
        ⊎_elim (λ f. inl (record { before = Wrote t d x ∷ f.before; bytes = f.bytes; later = f.later; split = ap (λ (l : List Event). Wrote t d x ∷ l) f.split; from = skip ∙ f.from }))
        (λ m. inr (record { from = skip ∙ m.from; none = λ w. ⊎_elim (λ p. eqb-false d b at p.1) m.none w })) rest

-- what a cell is after a lawful log
record Newest (base : Blocks) (b : ℕ) (log : List Event) : Type 0 where
  pub ticket : ℕ
  pub bytes : List ℕ
  pub later : List Event
  pub is : IsNewestNoticed log b ticket bytes later
  pub cell : cell_of base log b ≡ record { settled = bytes; pending = writes_to b later }

record Untold (base : Blocks) (b : ℕ) (log : List Event) : Type 0 where
  pub none : HasNoneNoticed log b
  pub cell : cell_of base log b ≡ record { settled = base b; pending = writes_to b log }

abbrev Told : Blocks → ℕ → List Event → Type 0
Told base b log = Newest base b log ⊎ Untold base b log

-- a write, accepted or lost, is one more pending write of its block
wrote_adds : (b t d : ℕ) (c : Cell) (x : List ℕ) → after b c (Wrote t d x) ≡ record { settled = c.settled; pending = c.pending ++ writes_to b (Wrote t d x ∷ []) }
wrote_adds b t d c x = elim (d == b) as (λ v. (if v then with_write c (Some t) x else c) ≡ record { settled = c.settled; pending = c.pending ++ (if v then record { ticket = Some t; bytes = x } ∷ [] else []) })
    [ true ↦ refl | false ↦ ap (λ (ws : List Write). record { settled = c.settled; pending = ws }) (sym (append-nil c.pending)) ]

-- and so is a lost one
lost_adds : (b d : ℕ) (c : Cell) (x : List ℕ) → after b c (Lost d x) ≡ record { settled = c.settled; pending = c.pending ++ writes_to b (Lost d x ∷ []) }
lost_adds b d c x = elim (d == b) as (λ v. (if v then with_write c None x else c) ≡ record { settled = c.settled; pending = c.pending ++ (if v then record { ticket = None; bytes = x } ∷ [] else []) })
    [ true ↦ refl | false ↦ ap (λ (ws : List Write). record { settled = c.settled; pending = ws }) (sym (append-nil c.pending)) ]

-- an event that is no notice
module _ (base : Blocks) (b : ℕ) (log : List Event) (e : Event) (adds : (c : Cell) → after b c e ≡ record { settled = c.settled; pending = c.pending ++ writes_to b (e ∷ []) })
    (quiet : (u : ℕ) → IsNoticed u (log ++ e ∷ []) → IsNoticed u log) (new : (u : ℕ) → IsWriteOf u b (e ∷ []) → ¬ IsNoticed u log) where
  -- the event joins what is pending after the same settled write
  added : (s : List ℕ) (from : List Event) → cell_of base log b ≡ record { settled = s; pending = writes_to b from } → cell_of base (log ++ e ∷ []) b ≡ record { settled = s; pending = writes_to b (from ++ e ∷ []) }
  added s from now = cell_of-append base log (e ∷ []) b ∙ ap (λ (c : Cell). after b c e) now ∙ adds (record { settled = s; pending = writes_to b from }) ∙ ap (λ (ws : List Write). record { settled = s; pending = ws }) (sym (writes_append b from (e ∷ [])))

  -- so the newest noticed write stays what it was
  told_written : Told base b log → Told base b (log ++ e ∷ [])
  told_written (inl w) = inl (record {
    ticket = w.ticket;
    bytes = w.bytes;
    later = w.later ++ e ∷ [];
    is = record {
      before = w.is.before;
      split = ap (λ (l : List Event). l ++ e ∷ []) w.is.split ∙ append_assoc w.is.before (Wrote w.ticket b w.bytes ∷ w.later) (e ∷ []);
      noticed = is_noticed-append w.ticket log (e ∷ []) ∙ or_left _ _ w.is.noticed;
      greatest = λ u wr n. ⊎_elim (λ old. w.is.greatest u old (quiet u n)) (λ own. absurd (new u own (quiet u n))) (write_parts u b log (e ∷ []) wr);
    };
    cell = added w.bytes w.later w.cell;
  })
  told_written (inr w) = inr (record {
    none = λ u wr n. ⊎_elim (λ old. w.none u old (quiet u n)) (λ own. new u own (quiet u n)) (write_parts u b log (e ∷ []) wr);
    cell = added (base b) log w.cell;
  })

-- a notice
module _ (base : Blocks) (b : ℕ) (log : List Event) (n : ℕ) (lawful : IsLawful log) (is_open : IsAccepted n log) where
  -- a ticket that is noticed now was so before, or is the new one
  noticed_parts : (u : ℕ) → IsNoticed u (log ++ Noticed n ∷ []) → IsNoticed u log ⊎ (u ≡ n)
  noticed_parts u h = ⊎_elim inl (λ own. inr (⊎_elim (λ e. sym (eqb-true n u e)) (λ none. absurd (false≢true none)) (or_cases _ _ own))) (IsNoticed-append u log (Noticed n ∷ []) h)

  -- what was noticed stays so
  noticed_old : (u : ℕ) → IsNoticed u log → IsNoticed u (log ++ Noticed n ∷ [])
  noticed_old u h = is_noticed-append u log (Noticed n ∷ []) ∙ or_left _ _ h

  -- and the new one is noticed
  noticed_own : IsNoticed n (log ++ Noticed n ∷ [])
  noticed_own = is_noticed-append n log (Noticed n ∷ []) ∙ or_right _ _ (or_left _ _ (eq-eqb n n refl))

  -- a notice is no write
  write_old : (u : ℕ) → IsWriteOf u b (log ++ Noticed n ∷ []) → IsWriteOf u b log
  write_old u w = ⊎_elim (λ old. old) (λ none. absurd none) (write_parts u b log (Noticed n ∷ []) w)

  -- the notice settles the write of its ticket in the cell
  cell_settles : (c : Cell) → cell_of base log b ≡ c → cell_of base (log ++ Noticed n ∷ []) b ≡ settle c (from_ticket n c.pending)
  cell_settles c now = cell_of-append base log (Noticed n ∷ []) b ∙ ap (λ (d : Cell). settle d (from_ticket n d.pending)) now

  -- a notice adds no write
  same_writes : (es : List Event) → writes_to b (es ++ Noticed n ∷ []) ≡ writes_to b es
  same_writes es = writes_append b es (Noticed n ∷ []) ∙ append-nil (writes_to b es)

  -- the writes of the log after a write that is in it have greater tickets
  above_split : (before later : List Event) (t : ℕ) (x : List ℕ) (u : ℕ) → log ≡ before ++ (Wrote t b x ∷ later) → IsWriteOf u b later → t < u
  above_split before later t x u split w =
      let rest = lawful_behind [] before (Wrote t b x ∷ later) (subst IsLawful split lawful) in
      let low = write_above (before ++ Wrote t b x ∷ []) later u b rest.1 w in
      let all = greatest-append before (Wrote t b x ∷ []) in
      omega arith

  -- the newest noticed write after the notice: that of its ticket, where it is among the later ones, else as before
  told_noticed : Told base b log → Told base b (log ++ Noticed n ∷ [])
  told_noticed (inr w) = ⊎_elim
      (λ f. inl (record {
        ticket = n;
        bytes = f.bytes;
        later = f.later ++ Noticed n ∷ [];
        is = record {
          before = f.before;
          split = ap (λ (l : List Event). l ++ Noticed n ∷ []) f.split ∙ append_assoc f.before (Wrote n b f.bytes ∷ f.later) (Noticed n ∷ []);
          noticed = noticed_own;
          greatest = λ u wr h. ⊎_elim (λ old. absurd (w.none u (write_old u wr) old)) (λ own. omega (arith, own)) (noticed_parts u h);
        };
        cell = cell_settles (record { settled = base b; pending = writes_to b log }) w.cell ∙ ap (settle (record { settled = base b; pending = writes_to b log })) f.from ∙ ap (λ (ws : List Write). record { settled = f.bytes; pending = ws }) (sym (same_writes f.later));
      }))
      (λ m. inr (record {
        none = λ u wr h. ⊎_elim (λ old. w.none u (write_old u wr) old) (λ own. m.none (subst (λ k. IsWriteOf k b log) own (write_old u wr))) (noticed_parts u h);
        cell = cell_settles (record { settled = base b; pending = writes_to b log }) w.cell ∙ ap (settle (record { settled = base b; pending = writes_to b log })) m.from ∙ ap (λ (ws : List Write). record { settled = base b; pending = ws }) (sym (same_writes log));
      }))
      (found_or n b log)
  told_noticed (inl w) = ⊎_elim
      (λ f.
      let split : log ≡ (w.is.before ++ Wrote w.ticket b w.bytes ∷ f.before) ++ (Wrote n b f.bytes ∷ f.later) =
      w.is.split ∙ ap (λ (l : List Event). w.is.before ++ (Wrote w.ticket b w.bytes ∷ l)) f.split ∙ sym (append_assoc w.is.before (Wrote w.ticket b w.bytes ∷ f.before) (Wrote n b f.bytes ∷ f.later)) in
      let above : w.ticket < n = above_split w.is.before w.later w.ticket w.bytes n w.is.split (subst (λ (l : List Event). IsWriteOf n b l) (sym f.split) (write_right n b f.before (Wrote n b f.bytes ∷ f.later) (inl (refl, refl)))) in
      inl (record {
        ticket = n;
        bytes = f.bytes;
        later = f.later ++ Noticed n ∷ [];
        is = record {
          before = w.is.before ++ Wrote w.ticket b w.bytes ∷ f.before;
          split = ap (λ (l : List Event). l ++ Noticed n ∷ []) split ∙ append_assoc (w.is.before ++ Wrote w.ticket b w.bytes ∷ f.before) (Wrote n b f.bytes ∷ f.later) (Noticed n ∷ []);
          noticed = noticed_own;
          greatest = λ u wr h. ⊎_elim (λ old. omega (arith, above, w.is.greatest u (write_old u wr) old)) (λ own. omega (arith, own)) (noticed_parts u h);
        };
        cell = cell_settles (record { settled = w.bytes; pending = writes_to b w.later }) w.cell ∙ ap (settle (record { settled = w.bytes; pending = writes_to b w.later })) f.from ∙ ap (λ (ws : List Write). record { settled = f.bytes; pending = ws }) (sym (same_writes f.later));
      }))
      (λ m. inl (record {
        ticket = w.ticket;
        bytes = w.bytes;
        later = w.later ++ Noticed n ∷ [];
        is = record {
          before = w.is.before;
          split = ap (λ (l : List Event). l ++ Noticed n ∷ []) w.is.split ∙ append_assoc w.is.before (Wrote w.ticket b w.bytes ∷ w.later) (Noticed n ∷ []);
          noticed = noticed_old w.ticket w.is.noticed;
          greatest = λ u wr h. ⊎_elim (λ old. w.is.greatest u (write_old u wr) old) (λ own. below u own m.none (write_old u wr)) (noticed_parts u h);
        };
        cell = cell_settles (record { settled = w.bytes; pending = writes_to b w.later }) w.cell ∙ ap (settle (record { settled = w.bytes; pending = writes_to b w.later })) m.from ∙ ap (λ (ws : List Write). record { settled = w.bytes; pending = ws }) (sym (same_writes w.later));
      }))
      (found_or n b w.later)
    where
      below : (u : ℕ) → u ≡ n → ¬ IsWriteOf n b w.later → IsWriteOf u b log → u ≤ w.ticket
      below u own none wr = ⊎_elim
          (λ early.
          let low = write_low u b w.is.before early in
          let rest = lawful_behind [] w.is.before (Wrote w.ticket b w.bytes ∷ w.later) (subst IsLawful w.is.split lawful) in
          omega (arith, low, rest.0))
          (λ late. ⊎_elim (λ p. omega (arith, p.0)) (λ more. absurd (none (subst (λ k. IsWriteOf k b w.later) own more))) late)
          (write_parts u b w.is.before (Wrote w.ticket b w.bytes ∷ w.later) (subst (λ (l : List Event). IsWriteOf u b l) w.is.split wr))

-- each lawful event keeps the cell told by the newest noticed write
told_event : (base : Blocks) (b : ℕ) (log : List Event) (e : Event) → IsLawful log → MayCome log e → Told base b log → Told base b (log ++ e ∷ [])
told_event base b log (Wrote t d x) lawful may told = told_written base b log (Wrote t d x) (λ c. wrote_adds b t d c x) (λ u n. ⊎_elim (λ old. old) (λ none. absurd (false≢true none)) (IsNoticed-append u log (Wrote t d x ∷ []) n))
    (λ u w n. omega (arith, (⊎_elim (λ p. p.0) (λ none. absurd none) w), noticed_low [] log u lawful n)) told
told_event base b log (Lost d x) lawful may told = told_written base b log (Lost d x) (λ c. lost_adds b d c x) (λ u n. ⊎_elim (λ old. old) (λ none. absurd (false≢true none)) (IsNoticed-append u log (Lost d x ∷ []) n)) (λ u w n. w) told
told_event base b log (Noticed n) lawful may told = told_noticed base b log n lawful may.0 told

-- and so do lawful events one after the other
told_all : (base : Blocks) (b : ℕ) (before es : List Event) → IsLawful before → AreLawfulAfter before es → Told base b before → Told base b (before ++ es)
told_all base b before [] lawful rest told = subst (λ (l : List Event). Told base b l) (sym (append-nil before)) told
told_all base b before (e ∷ es) lawful rest told = subst (λ (l : List Event). Told base b l) (append_assoc before (e ∷ []) es)
    (told_all base b (before ++ e ∷ []) es (lawful_event before e lawful rest.0) rest.1 (told_event base b before e lawful rest.0 told))

-- so each lawful log has its cells told by it
told : (base : Blocks) (b : ℕ) (log : List Event) → IsLawful log → Told base b log
told base b log lawful = told_all base b [] log tt lawful (inr (record { none = λ u w n. w; cell = refl }))

-- a ticket comes once in a lawful log
once : (p before before2 later later2 : List Event) (b t : ℕ) (x x2 : List ℕ) → AreLawfulAfter p (before ++ (Wrote t b x ∷ later)) → before ++ (Wrote t b x ∷ later) ≡ before2 ++ (Wrote t b x2 ∷ later2) → (x ≡ x2) × (later ≡ later2)
once p [] [] later later2 b t x x2 h e = (cc, cc)
once p [] (f ∷ before2) later later2 b t x x2 h e =
    let rest : later ≡ before2 ++ (Wrote t b x2 ∷ later2) = cc in
    let high = write_above (p ++ Wrote t b x ∷ []) later t b h.1 (subst (λ (l : List Event). IsWriteOf t b l) (sym rest) (write_right t b before2 (Wrote t b x2 ∷ later2) (inl (refl, refl)))) in
    let all = greatest-append p (Wrote t b x ∷ []) in
    absurd (omega arith)
once p (f ∷ before) [] later later2 b t x x2 h e =
    let first : f ≡ Wrote t b x2 = cc in
    let high = write_above (p ++ f ∷ []) (before ++ (Wrote t b x ∷ later)) t b h.1 (write_right t b before (Wrote t b x ∷ later) (inl (refl, refl))) in
    let all = greatest-append p (Wrote t b x2 ∷ []) in
    let same = ap (λ (g : Event). greatest_ticket (p ++ g ∷ [])) first in
    absurd (omega arith)
once p (f ∷ before) (f2 ∷ before2) later later2 b t x x2 h e =
    let rest : before ++ (Wrote t b x ∷ later) ≡ before2 ++ (Wrote t b x2 ∷ later2) = cc in
    once (p ++ f ∷ []) before before2 later later2 b t x x2 h.1 rest

-- settled is the noticed write with the greatest ticket, and pending are the writes after it
pub settled_newest : (base : Blocks) (log later : List Event) (b t : ℕ) (x : List ℕ) → IsLawful log → IsNewestNoticed log b t x later → cell_of base log b ≡ record { settled = x; pending = writes_to b later }
settled_newest base log later b t x lawful is = ⊎_elim
    (λ w.
    let own = subst (λ (l : List Event). IsWriteOf t b l) (sym is.split) (write_right t b is.before (Wrote t b x ∷ later) (inl (refl, refl))) in
    let its = subst (λ (l : List Event). IsWriteOf w.ticket b l) (sym w.is.split) (write_right w.ticket b w.is.before (Wrote w.ticket b w.bytes ∷ w.later) (inl (refl, refl))) in
    let same : w.ticket ≡ t = omega (arith, is.greatest w.ticket its w.is.noticed, w.is.greatest t own is.noticed) in
    let one = once [] w.is.before is.before w.later later b t w.bytes x (subst IsLawful (w.is.split ∙ ap (λ k. w.is.before ++ (Wrote k b w.bytes ∷ w.later)) same) lawful) (sym (w.is.split ∙ ap (λ k. w.is.before ++ (Wrote k b w.bytes ∷ w.later)) same) ∙ is.split) in
    w.cell ∙ ap (λ (y : List ℕ). record { settled = y; pending = writes_to b w.later }) one.0 ∙ ap (λ (l : List Event). record { settled = x; pending = writes_to b l }) one.1)
    (λ w. absurd (w.none t (subst (λ (l : List Event). IsWriteOf t b l) (sym is.split) (write_right t b is.before (Wrote t b x ∷ later) (inl (refl, refl)))) is.noticed))
    (told base b log lawful)

-- or the base where no write to the block is noticed
pub settled_base : (base : Blocks) (log : List Event) (b : ℕ) → IsLawful log → HasNoneNoticed log b → cell_of base log b ≡ record { settled = base b; pending = writes_to b log }
settled_base base log b lawful none = ⊎_elim
    (λ w. absurd (none w.ticket (subst (λ (l : List Event). IsWriteOf w.ticket b l) (sym w.is.split) (write_right w.ticket b w.is.before (Wrote w.ticket b w.bytes ∷ w.later) (inl (refl, refl)))) w.is.noticed))
    (λ w. w.cell)
    (told base b log lawful)

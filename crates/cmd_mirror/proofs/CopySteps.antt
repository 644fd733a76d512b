-- What a stretch makes of a copying: of the log of the disk that is written, and of its blocks; how stretches join; and a block that is copied alone.
use Rattle.std.proofs.Common.{◌≡◌, ◌≢◌, inl, inr, ⊎_elim, ℕ, ◌+◌, ◌-◌, ◌<◌, ◌≤◌, Bool, true, false, ◌==◌, if◌then◌else◌, IsTrue, List, [], ◌∷◌, ◌++◌, length, slice_index_or, slice_set, OnOk, Some, Result, Ok, Err, refl, sym, ◌∙◌, ap, subst, arith, append-nil, append_assoc}
use Rattle.std.proofs.lemmas.Bool.{cases_eq, cases_lt, eqb-true, eqb-false, or_cases, or_left, or_right, false≢true}
use Rattle.std.proofs.lemmas.List.{get_or-set_other, get_or-set_same}
use Rattle.base_types.specs.Counts.{after_call}
use Rattle.base_types.specs.Seal.{Blocks}
use Rattle.disk_contract.specs.declared.event.Event.{Event}
use Rattle.disk_contract.specs.declared.event.Event.TheVariants.{Wrote, Lost, Noticed}
use Rattle.disk_contract.specs.Cell.{Cell, Write, accepted, cell_of, from_ticket, is_lost, IsAccepted, IsNoticed, notices, settle, with_write}
use Rattle.disk_contract.specs.Disk.{AddsNotices, AddsWrite, HasFailed, OnlyReads, OnlyWaits, OnlyWrites, Reads, Spends, State}
use Rattle.disk_contract.specs.Logs.{IsAccepted-last as accepted_last, IsAccepted-more as accepted_still}
use Rattle.cmd_mirror.proofs.Readings.{untouched}
use Rattle.cmd_mirror.specs.declared.copying.CopyFault.{CopyFault}
use Rattle.cmd_mirror.specs.declared.copying.CopyFault.TheVariants.{Read as Unread, Write as Written}
use Rattle.cmd_mirror.specs.Copies.{AreCopiesOf, AreGiven, CopiesPart, CopiesRange, GrowsWithin, IsSent, IsStretch, SendsStretch, WaitsForStretch, WritesAndWaits, fails_reading, fails_writing}
use Rattle.cmd_mirror.proofs.CopyOrder.{grows_none, grows_noticed, grows_on, grows_wider, grows_wrote}

-- The log.

-- copies, and more of them
copies_then : (at : Blocks) (xs ys : List Event) → AreCopiesOf at xs → AreCopiesOf at ys → AreCopiesOf at (xs ++ ys)
copies_then at [] ys first more = more
copies_then at (Wrote t b x ∷ xs) ys first more = (first.0, copies_then at xs ys first.1 more)
copies_then at (Lost b x ∷ xs) ys first more = (first.0, copies_then at xs ys first.1 more)
copies_then at (Noticed t ∷ xs) ys first more = copies_then at xs ys first more

notices_copy : (at : Blocks) (ts : List ℕ) → AreCopiesOf at (notices ts)
notices_copy at [] = tt
notices_copy at (t ∷ ts) = notices_copy at ts

-- a write of a copy, accepted or lost
copies_wrote : {E : Type 0} (at : Blocks) (b : ℕ) (x : List ℕ) (r : Result ℕ E) (old new : List Event) → x ≡ at b → AddsWrite b x r old new → AreCopiesOf at old → AreCopiesOf at new
copies_wrote at b x (Ok t) old new is adds before = subst (AreCopiesOf at) (sym adds.2) (copies_then at old (Wrote t b x ∷ []) before (is, tt))
copies_wrote at b x (Err e) old new is adds before =
    ⊎_elim (λ same. subst (AreCopiesOf at) (sym same) before) (λ lost. subst (AreCopiesOf at) (sym lost) (copies_then at old (Lost b x ∷ []) before (is, tt))) adds

-- and what a wait brings
copies_noticed : (at : Blocks) (old new : List Event) → AddsNotices old new → AreCopiesOf at old → AreCopiesOf at new
copies_noticed at old new adds before = subst (AreCopiesOf at) (sym adds.log) (copies_then at old (notices adds.tickets) before (notices_copy at adds.tickets))

-- a read of a disk with no event gives what was there when it began
read_is : (s : State) (b : ℕ) (x : List ℕ) → s.log ≡ [] → Reads s b x → x ≡ s.base b
read_is s b x empty reads = reads.calm (ap (λ (l : List Event). is_lost b l) empty) ∙ ap (λ (l : List Event). accepted s.base l b) empty

-- a notice that is in two lists and not in the first is in the second
told : (t : ℕ) (xs ys : List Event) → ¬ IsNoticed t xs → IsNoticed t (xs ++ ys) → IsNoticed t ys
told t [] ys fresh is = is
told t (Wrote u b x ∷ xs) ys fresh is = told t xs ys fresh is
told t (Lost b x ∷ xs) ys fresh is = told t xs ys fresh is
told t (Noticed u ∷ xs) ys fresh is = ⊎_elim (λ here. absurd (fresh (or_left _ _ here))) (λ later. told t xs ys (λ n. fresh (or_right _ _ n)) later) (or_cases _ _ is)

not_yet : (t : ℕ) (log : List Event) (u b : ℕ) (x : List ℕ) → ¬ IsNoticed t log → ¬ IsNoticed t (log ++ Wrote u b x ∷ [])
not_yet t log u b x fresh is = false≢true (told t log (Wrote u b x ∷ []) fresh is)

-- The blocks.

-- what a write and a notice make of a block
pub record CellLaws : Type 0 where
  pub wrote : (base : Blocks) (log : List Event) (t b : ℕ) (x : List ℕ) → cell_of base (log ++ Wrote t b x ∷ []) b ≡ with_write (cell_of base log b) (Some t) x
  pub noticed : (base : Blocks) (log : List Event) (t b : ℕ) → cell_of base (log ++ Noticed t ∷ []) b ≡ settle (cell_of base log b) (from_ticket t (cell_of base log b).pending)
  pub elsewhere : (base : Blocks) (log : List Event) (t a b : ℕ) (x : List ℕ) → a ≢ b → cell_of base (log ++ Wrote t a x ∷ []) b ≡ cell_of base log b

module _ (laws : CellLaws) (base : Blocks) where
  -- one notice more in front
  in_front : (log : List Event) (b t : ℕ) (ts : List ℕ) → cell_of base (log ++ notices (t ∷ ts)) b ≡ cell_of base ((log ++ Noticed t ∷ []) ++ notices ts) b
  in_front log b t ts = ap (λ (l : List Event). cell_of base l b) (sym (append_assoc log (Noticed t ∷ []) (notices ts)))

  -- a block with nothing pending stays as it is, whatever is noticed
  rests : (log : List Event) (b : ℕ) (ts : List ℕ) → (cell_of base log b).pending ≡ [] → cell_of base (log ++ notices ts) b ≡ cell_of base log b
  rests log b [] idle = ap (λ (l : List Event). cell_of base l b) (append-nil log)
  rests log b (t ∷ ts) idle =
      let one : cell_of base (log ++ Noticed t ∷ []) b ≡ cell_of base log b = laws.noticed base log t b ∙ ap (λ (ws : List Write). settle (cell_of base log b) (from_ticket t ws)) idle in
      in_front log b t ts ∙ rests (log ++ Noticed t ∷ []) b ts (ap (λ (c : Cell). c.pending) one ∙ idle) ∙ one

  module _ (at : Blocks) where
    -- a block that is sent, after a write to another
    sent_aside : (log : List Event) (u b : ℕ) (x : List ℕ) (c t : ℕ) → b ≢ c → IsSent at base log c t → IsSent at base (log ++ Wrote u b x ∷ []) c t
    sent_aside log u b x c t apart (inl is) = inl (laws.elsewhere base log u b c x apart ∙ is)
    sent_aside log u b x c t apart (inr p) = inr (not_yet t log u b x p.0, (p.1.0, laws.elsewhere base log u b c x apart ∙ p.1.1))

    -- after a notice
    sent_one : (log : List Event) (u c t : ℕ) → IsSent at base log c t → IsSent at base (log ++ Noticed u ∷ []) c t
    sent_one log u c t (inl is) = inl (laws.noticed base log u c ∙ ap (λ (d : Cell). settle d (from_ticket u d.pending)) is)
    sent_one log u c t (inr p) =
        let w : Write = record { ticket = Some t; bytes = at c } in
        let one : cell_of base (log ++ Noticed u ∷ []) c ≡ settle (record { settled = p.1.0; pending = w ∷ [] }) (if t == u then w ∷ [] else []) = laws.noticed base log u c ∙ ap (λ (d : Cell). settle d (from_ticket u d.pending)) p.1.1 in
        elim (t == u) as (λ v. (t == u) ≡ v → IsSent at base (log ++ Noticed u ∷ []) c t) [
          | true ↦ λ e. inl (one ∙ ap (λ (v : Bool). settle (record { settled = p.1.0; pending = w ∷ [] }) (if v then w ∷ [] else [])) e)
          | false ↦ λ e.
              inr (
                (λ n. ⊎_elim (λ same. eqb-false t u e (sym (eqb-true u t same))) (λ none. false≢true none) (or_cases _ _ (told t log (Noticed u ∷ []) p.0 n))),
                (p.1.0, one ∙ ap (λ (v : Bool). settle (record { settled = p.1.0; pending = w ∷ [] }) (if v then w ∷ [] else [])) e),
              )
        ] refl

    -- and after several
    sent_on : (log : List Event) (ts : List ℕ) (c t : ℕ) → IsSent at base log c t → IsSent at base (log ++ notices ts) c t
    sent_on log [] c t is = subst (λ (l : List Event). IsSent at base l c t) (sym (append-nil log)) is
    sent_on log (u ∷ ts) c t is = subst (λ (l : List Event). IsSent at base l c t) (append_assoc log (Noticed u ∷ []) (notices ts)) (sent_on (log ++ Noticed u ∷ []) ts c t (sent_one log u c t is))

    -- a block that is written now
    sent_now : (log : List Event) (b t : ℕ) (x : List ℕ) → x ≡ at b → ¬ IsNoticed t log → (cell_of base log b).pending ≡ [] → IsSent at base (log ++ Wrote t b x ∷ []) b t
    sent_now log b t x bytes fresh idle =
        let old = (cell_of base log b).settled in
        inr (
          not_yet t log t b x fresh,
          (old, laws.wrote base log t b x ∙ ap (λ (ws : List Write). record { settled = old; pending = ws ++ record { ticket = Some t; bytes = x } ∷ [] }) idle ∙ ap (λ (y : List ℕ). record { settled = old; pending = record { ticket = Some t; bytes = y } ∷ [] }) bytes),
        )

    -- a block that is sent is durable once its notice came
    durable : (log : List Event) (c t : ℕ) → IsSent at base log c t → IsNoticed t log → cell_of base log c ≡ record { settled = at c; pending = [] }
    durable log c t (inl is) n = is
    durable log c t (inr p) n = absurd (p.0 n)

    module _ (old : List Event) (idle : (b : ℕ) → (cell_of base old b).pending ≡ []) where
      -- one block more of a stretch is sent
      sends : (first i t : ℕ) (x tickets : List ℕ) (log : List Event) → i < length tickets → x ≡ at (first + i) → ¬ IsNoticed t log → IsStretch at first 0 i tickets base old log → IsStretch at first 0 (i + 1) (slice_set tickets i t) base old (log ++ Wrote t (first + i) x ∷ [])
      sends first i t x tickets log room bytes fresh s = record {
        copied = λ b low high. absurd (omega (arith, low, high));
        sent = λ j low high.
            ⊎_elim (λ same. subst (λ (k : ℕ). IsSent at base (log ++ Wrote t (first + i) x ∷ []) (first + k) (slice_index_or (slice_set tickets i t) k 0)) same
            (subst (IsSent at base (log ++ Wrote t (first + i) x ∷ []) (first + i)) (sym (get_or-set_same tickets i t 0 room)) (sent_now log (first + i) t x bytes fresh (ap (λ (d : Cell). d.pending) (s.others (first + i) (inr (omega arith))) ∙ idle (first + i)))))
            (λ apart. subst (IsSent at base (log ++ Wrote t (first + i) x ∷ []) (first + j)) (sym (get_or-set_other tickets i j t 0 (λ same. apart (sym same))))
            (sent_aside log t (first + i) x (first + j) (slice_index_or tickets j 0) (λ same. apart (omega (arith, same))) (s.sent j low (omega (arith, high, apart)))))
            (cases_eq i j);
        others = λ b out. laws.elsewhere base log t (first + i) b x (λ same. ⊎_elim (λ before. omega (arith, same, before)) (λ behind. omega (arith, same, behind)) out) ∙ s.others b (⊎_elim inl (λ behind. inr (omega (arith, behind))) out);
      }

      -- and one more is durable
      hears : (first i all : ℕ) (tickets : List ℕ) (log : List Event) (ts : List ℕ) → i < all → IsNoticed (slice_index_or tickets i 0) (log ++ notices ts) → IsStretch at first i all tickets base old log → IsStretch at first (i + 1) all tickets base old (log ++ notices ts)
      hears first i all tickets log ts below is s = record {
        copied = λ b low high.
            ⊎_elim (λ same. subst (λ (c : ℕ). cell_of base (log ++ notices ts) c ≡ record { settled = at c; pending = [] }) same
            (durable (log ++ notices ts) (first + i) (slice_index_or tickets i 0) (sent_on log ts (first + i) (slice_index_or tickets i 0) (s.sent i (omega arith) below)) is))
            (λ apart. let before = s.copied b low (omega (arith, high, apart)) in rests log b ts (ap (λ (d : Cell). d.pending) before) ∙ before)
            (cases_eq (first + i) b);
        sent = λ j low high. sent_on log ts (first + j) (slice_index_or tickets j 0) (s.sent j (omega (arith, low)) high);
        others = λ b out. rests log b ts (ap (λ (d : Cell). d.pending) (s.others b out) ∙ idle b) ∙ s.others b out;
      }

-- The calls.

-- a disk with no event has no copies
pub no_copies : (at : Blocks) (log : List Event) → log ≡ [] → AreCopiesOf at log
no_copies at log empty = subst (AreCopiesOf at) (sym empty) tt

pub writes_nothing : (s : State) → WritesAndWaits false 0 s s
writes_nothing s = (0, omega arith, record { same = record { blocks = refl; base = refl; manner = refl }; faults = refl; read_faults = refl; waits = refl; polls = refl })

-- and one that is read once more
pub reads_on : (failed : Bool) (old mid new : State) → OnlyReads false old mid → OnlyReads failed mid new → OnlyReads failed old new
reads_on failed old mid new a b = record {
  same = record { blocks = b.same.blocks ∙ a.same.blocks; base = b.same.base ∙ a.same.base; manner = b.same.manner ∙ a.same.manner };
  faults = b.faults ∙ a.faults;
  read_faults = b.read_faults ∙ ap (after_call failed) a.read_faults;
  waits = b.waits ∙ a.waits;
  polls = b.polls ∙ a.polls;
}

-- how calls in a row spend
abbrev pub SpendTogether : Type 0
SpendTogether = (failed : Bool) (waits polls more_waits more_polls : ℕ) (old mid new : State) → Spends false waits polls old mid → Spends failed more_waits more_polls mid new → Spends failed (more_waits + waits) (more_polls + polls) old new

-- a disk that is written and waited for once more
pub writes_on : SpendTogether → (failed : Bool) (most more : ℕ) (old mid new : State) → WritesAndWaits false most old mid → WritesAndWaits failed more mid new → WritesAndWaits failed (most + more) old new
writes_on together failed most more old mid new a b = (b.0 + a.0, omega (arith, a.1, b.1), together failed a.0 0 b.0 0 old mid new a.2 b.2)

-- as many waits may have been more
pub at_most : (failed : Bool) (most more : ℕ) (old new : State) → most ≤ more → WritesAndWaits failed most old new → WritesAndWaits failed more old new
at_most failed most more old new le a = (a.0, omega (arith, a.1, le), a.2)

-- a step that was made by what one disk began with, where that is what another began with
pub by_base : {at now : Blocks} (P Q : Blocks → Type 0) → now ≡ at → (P now → Q now) → P at → Q at
by_base P Q same step before = subst Q same (step (subst P (sym same) before))

-- A stretch.

-- no block was sent yet
pub sends_none : (tells : Bool) (first : ℕ) (tickets : List ℕ) (from to : State) → SendsStretch tells first 0 tickets (Ok tt) from from to to
sends_none tells first tickets from to = record {
  reads = untouched from;
  unwritten = λ t. refl;
  spends = record { same = record { blocks = refl; base = refl; manner = refl }; faults = refl; read_faults = refl; waits = refl; polls = refl };
  copies = λ t empty before. before;
  grows = λ t. grows_none first (first + 0) to.log;
  sent = λ t empty idle. record { copied = λ b low high. absurd (omega (arith, low, high)); sent = λ j low high. absurd (omega (arith, high)); others = λ b out. refl };
  given = λ t j below. absurd (omega (arith, below));
  cause = λ t is. absurd (false≢true is);
}

-- what was read of a block that nothing was written to
pub bytes_read : (tells : Bool) (from mid : State) (b : ℕ) (x : List ℕ) → OnlyReads false from mid → (IsTrue tells → mid.log ≡ from.log) → (IsTrue tells → Reads mid b x) → IsTrue tells → from.log ≡ [] → x ≡ from.base b
bytes_read tells from mid b x reads unwritten read t empty = read_is mid b x (unwritten t ∙ empty) (read t) ∙ ap (λ (at : Blocks). at b) reads.same.base

module _ (together : SpendTogether) (tells : Bool) (first i : ℕ) (tickets : List ℕ) (from mid to to_mid : State) (so_far : SendsStretch tells first i tickets (Ok tt) from mid to to_mid) where
  -- a read failed
  pub sends_unread : (count : ℕ) → i ≤ count → (now : State) → OnlyReads true mid now → (IsTrue tells → now.log ≡ mid.log) → SendsStretch tells first count tickets (Err Unread) from now to to_mid
  sends_unread count few now reads log = record {
    reads = reads_on true from mid now so_far.reads reads;
    unwritten = λ t. log t ∙ so_far.unwritten t;
    spends = so_far.spends;
    copies = so_far.copies;
    grows = λ t. grows_wider first (first + i) first (first + count) to.log to_mid.log (omega arith) (omega (arith, few)) (so_far.grows t);
    sent = λ t empty idle. tt;
    given = λ t. tt;
    cause = λ t is. absurd (false≢true is);
  }

  module _ (now : State) (reads : OnlyReads false mid now) (log : IsTrue tells → now.log ≡ mid.log) (x : List ℕ) (bytes : IsTrue tells → from.log ≡ [] → x ≡ from.base (first + i)) where
    -- a write failed
    pub sends_unwritten : {E : Type 0} (e : E) (count : ℕ) (to_now : State) → i < count → OnlyWrites true to_mid to_now → (IsTrue tells → AddsWrite (first + i) x (Err e) to_mid.log to_now.log) → (IsTrue tells → HasFailed to_now) → SendsStretch tells first count tickets (Err Written) from now to to_now
    sends_unwritten e count to_now below writes adds failed = record {
      reads = reads_on false from mid now so_far.reads reads;
      unwritten = λ t. log t ∙ so_far.unwritten t;
      spends = together true 0 0 0 0 to to_mid to_now so_far.spends writes;
      copies = λ t empty before. copies_wrote from.base (first + i) x (Err e) to_mid.log to_now.log (bytes t empty) (adds t) (so_far.copies t empty before);
      grows = λ t.
          grows_on first (first + count) to.log to_mid.log to_now.log (grows_wider first (first + i) first (first + count) to.log to_mid.log (omega arith) (omega (arith, below)) (so_far.grows t))
          (grows_wrote first (first + count) (first + i) x (Err e) to_mid.log to_now.log (omega arith) (omega (arith, below)) (adds t));
      sent = λ t empty before. tt;
      given = λ t. tt;
      cause = λ t is. failed t;
    }

    -- one block more is sent
    pub sends_one : CellLaws → i < length tickets → (ticket : ℕ) (to_now : State) → OnlyWrites false to_mid to_now → (IsTrue tells → AddsWrite {E = Unit {0}} (first + i) x (Ok ticket) to_mid.log to_now.log)
        → SendsStretch tells first (i + 1) (slice_set tickets i ticket) (Ok tt) from now to to_now
    sends_one laws room ticket to_now writes adds = record {
      reads = reads_on false from mid now so_far.reads reads;
      unwritten = λ t. log t ∙ so_far.unwritten t;
      spends = together false 0 0 0 0 to to_mid to_now so_far.spends writes;
      copies = λ t empty before. copies_wrote {E = Unit {0}} from.base (first + i) x (Ok ticket) to_mid.log to_now.log (bytes t empty) (adds t) (so_far.copies t empty before);
      grows = λ t.
          grows_on first (first + (i + 1)) to.log to_mid.log to_now.log (grows_wider first (first + i) first (first + (i + 1)) to.log to_mid.log (omega arith) (omega arith) (so_far.grows t))
          (grows_wrote {E = Unit {0}} first (first + (i + 1)) (first + i) x (Ok ticket) to_mid.log to_now.log (omega arith) (omega arith) (adds t));
      sent = λ t empty idle.
          subst (λ (l : List Event). IsStretch from.base first 0 (i + 1) (slice_set tickets i ticket) to.base to.log l) (sym (adds t).2)
          (sends laws to.base from.base to.log idle first i ticket x tickets to_mid.log room (bytes t empty) (adds t).1 (so_far.sent t empty idle));
      given = λ t j below.
          subst (IsAccepted (slice_index_or (slice_set tickets i ticket) j 0)) (sym (adds t).2)
          (⊎_elim (λ same. subst (λ (k : ℕ). IsAccepted (slice_index_or (slice_set tickets i ticket) k 0) (to_mid.log ++ Wrote ticket (first + i) x ∷ [])) same
          (subst (λ (u : ℕ). IsAccepted u (to_mid.log ++ Wrote ticket (first + i) x ∷ [])) (sym (get_or-set_same tickets i ticket 0 room)) (accepted_last ticket (first + i) x to_mid.log)))
          (λ apart. subst (λ (u : ℕ). IsAccepted u (to_mid.log ++ Wrote ticket (first + i) x ∷ [])) (sym (get_or-set_other tickets i j ticket 0 (λ same. apart (sym same))))
          (accepted_still (slice_index_or tickets j 0) to_mid.log (Wrote ticket (first + i) x ∷ []) (so_far.given t j (omega (arith, below, apart)))))
          (cases_eq i j));
      cause = λ t is. absurd (false≢true is);
    }

-- nothing was waited for yet
pub waits_none : (tells : Bool) (all : ℕ) (tickets : List ℕ) (to : State) → WaitsForStretch tells 0 all tickets (Ok tt) to to
waits_none tells all tickets to = record {
  answer = refl;
  spends = writes_nothing to;
  given = λ t before. before;
  copies = λ t at before. before;
  grows = λ t first end. grows_none first end to.log;
  whole = λ t at first old idle before. before;
  cause = λ t given is. absurd (false≢true is);
}

module _ (together : SpendTogether) (tells : Bool) (i all : ℕ) (tickets : List ℕ) (to mid : State) (so_far : WaitsForStretch tells i all tickets (Ok tt) to mid) (below : i < all) (now : State) (adds : IsTrue tells → AddsNotices mid.log now.log) where
  given_on : IsTrue tells → AreGiven tickets all to.log → AreGiven tickets all now.log
  given_on t before j lower = subst (IsAccepted (slice_index_or tickets j 0)) (sym (adds t).log) (accepted_still (slice_index_or tickets j 0) mid.log (notices (adds t).tickets) (so_far.given t before j lower))

  -- a wait failed
  pub waits_failed : (count : ℕ) → i + 1 ≤ count → OnlyWaits true mid now → (IsTrue tells → IsAccepted (slice_index_or tickets i 0) mid.log → HasFailed now) → WaitsForStretch tells count all tickets (Err Written) to now
  waits_failed count few waits failed = record {
    answer = refl;
    spends = at_most true (i + 1) count to now few (writes_on together true i 1 to mid now so_far.spends (1, omega arith, waits));
    given = given_on;
    copies = λ t at before. copies_noticed at mid.log now.log (adds t) (so_far.copies t at before);
    grows = λ t first end. grows_on first end to.log mid.log now.log (so_far.grows t first end) (grows_noticed first end mid.log now.log (adds t));
    whole = λ t at first old idle before. tt;
    cause = λ t given is. failed t (so_far.given t given i below);
  }

  -- one block more is durable
  pub waits_one : CellLaws → OnlyWaits false mid now → (IsTrue tells → IsNoticed (slice_index_or tickets i 0) now.log) → WaitsForStretch tells (i + 1) all tickets (Ok tt) to now
  waits_one laws waits noticed = record {
    answer = refl;
    spends = writes_on together false i 1 to mid now so_far.spends (1, omega arith, waits);
    given = given_on;
    copies = λ t at before. copies_noticed at mid.log now.log (adds t) (so_far.copies t at before);
    grows = λ t first end. grows_on first end to.log mid.log now.log (so_far.grows t first end) (grows_noticed first end mid.log now.log (adds t));
    whole = λ t at first old idle before.
        subst (λ (l : List Event). IsStretch at first (i + 1) all tickets to.base old l) (sym (adds t).log)
        (hears laws to.base at old idle first i all tickets mid.log (adds t).tickets below (subst (IsNoticed (slice_index_or tickets i 0)) (adds t).log (noticed t)) (so_far.whole t at first old idle before));
    cause = λ t given is. absurd (false≢true is);
  }

pub on_ok : {A E P Q : Type 0} (r : Result A E) → (P → Q) → OnOk r P → OnOk r Q
on_ok (Ok x) f p = f p
on_ok (Err e) f p = tt

-- a stretch that was sent, and then waited for
pub copies_stretch : SpendTogether → (tells : Bool) (first count : ℕ) (tickets : List ℕ) (result : Result (Unit {0}) CopyFault) (from from_now to to_mid to_now : State) → SendsStretch tells first count tickets (Ok tt) from from_now to to_mid → WaitsForStretch tells count count tickets result to_mid to_now
    → CopiesPart tells first (first + count) result from from_now to to_now
copies_stretch together tells first count tickets result from from_now to to_mid to_now s w = record {
  reads = subst (λ (f : Bool). OnlyReads f from from_now) (sym w.answer) s.reads;
  unwritten = s.unwritten;
  spends = at_most (fails_writing result) (0 + count) ((first + count) - first) to to_now (omega arith) (writes_on together (fails_writing result) 0 count to to_mid to_now (0, omega arith, s.spends) w.spends);
  copies = λ t empty before. w.copies t from.base (s.copies t empty before);
  grows = λ t. grows_on first (first + count) to.log to_mid.log to_now.log (s.grows t) (w.grows t first (first + count));
  whole = λ t empty idle.
      on_ok result (λ (r : IsStretch from.base first count count tickets to_mid.base to.log to_now.log). subst (λ (b : Blocks). CopiesRange from.base first (first + count) b to.log to_now.log) s.spends.same.base (record { copied = r.copied; others = r.others }))
      (w.whole t from.base first to.log (subst (λ (base : Blocks). (b : ℕ) → (cell_of base to.log b).pending ≡ []) (sym s.spends.same.base) idle) (subst (λ (b : Blocks). IsStretch from.base first 0 count tickets b to.log to_mid.log) (sym s.spends.same.base) (s.sent t empty idle)));
  cause = λ t is. w.cause t (s.given t) is;
}

-- and one that couldn't be sent
pub copies_none : (tells : Bool) (first count : ℕ) (tickets : List ℕ) (fault : CopyFault) (from from_now to to_now : State) → SendsStretch tells first count tickets (Err fault) from from_now to to_now → CopiesPart tells first (first + count) (Err fault) from from_now to to_now
copies_none tells first count tickets fault from from_now to to_now s = record {
  reads = s.reads;
  unwritten = s.unwritten;
  spends = (0, omega arith, s.spends);
  copies = s.copies;
  grows = s.grows;
  whole = λ t empty idle. tt;
  cause = s.cause;
}

-- Ranges.

-- a range, and the one behind it
range_then : (at base : Blocks) (a b c : ℕ) (old mid new : List Event) → a ≤ b → b ≤ c → CopiesRange at a b base old mid → CopiesRange at b c base mid new → CopiesRange at a c base old new
range_then at base a b c old mid new one_way other_way first second = record {
  copied = λ x low high. ⊎_elim (λ before. second.others x (inl before) ∙ first.copied x low before) (λ behind. second.copied x behind high) (cases_lt x b);
  others = λ x out.
      ⊎_elim (λ before. second.others x (inl (omega (arith, before, one_way))) ∙ first.others x (inl before)) (λ behind. second.others x (inr behind) ∙ first.others x (inr (omega (arith, behind, other_way)))) out;
}

-- and the one before it
range_before : (at base : Blocks) (a b c : ℕ) (old mid new : List Event) → a ≤ b → b ≤ c → CopiesRange at b c base old mid → CopiesRange at a b base mid new → CopiesRange at a c base old new
range_before at base a b c old mid new one_way other_way first second = record {
  copied = λ x low high. ⊎_elim (λ before. second.copied x low before) (λ behind. second.others x (inr behind) ∙ first.copied x behind high) (cases_lt x b);
  others = λ x out.
      ⊎_elim (λ before. second.others x (inl before) ∙ first.others x (inl (omega (arith, before, one_way)))) (λ behind. second.others x (inr (omega (arith, behind, other_way))) ∙ first.others x (inr behind)) out;
}

-- nothing is pending behind one
pub idle_after : (at base : Blocks) (a b : ℕ) (old new : List Event) → ((x : ℕ) → (cell_of base old x).pending ≡ []) → CopiesRange at a b base old new → (x : ℕ) → (cell_of base new x).pending ≡ []
idle_after at base a b old new idle range x =
    ⊎_elim (λ before. ap (λ (d : Cell). d.pending) (range.others x (inl before)) ∙ idle x)
    (λ low. ⊎_elim (λ high. ap (λ (d : Cell). d.pending) (range.copied x low high)) (λ behind. ap (λ (d : Cell). d.pending) (range.others x (inr behind)) ∙ idle x) (cases_lt x b)) (cases_lt x a)

-- no block was copied
pub part_none : (tells : Bool) (a : ℕ) (from to : State) → CopiesPart tells a a (Ok tt) from from to to
part_none tells a from to = record {
  reads = untouched from;
  unwritten = λ t. refl;
  spends = at_most false 0 (a - a) to to (omega arith) (writes_nothing to);
  copies = λ t empty before. before;
  grows = λ t. grows_none a a to.log;
  whole = λ t empty idle. record { copied = λ b low high. absurd (omega (arith, low, high)); others = λ b out. refl };
  cause = λ t is. absurd (false≢true is);
}

-- a part that failed is one of a longer range
pub part_to : (tells : Bool) (a b c d : ℕ) (fault : CopyFault) (from from_now to to_now : State) → c ≤ a → b ≤ d → CopiesPart tells a b (Err fault) from from_now to to_now → CopiesPart tells c d (Err fault) from from_now to to_now
part_to tells a b c d fault from from_now to to_now before behind p = record {
  reads = p.reads;
  unwritten = p.unwritten;
  spends = at_most (fails_writing (Err fault)) (b - a) (d - c) to to_now (omega (arith, before, behind)) p.spends;
  copies = p.copies;
  grows = λ t. grows_wider a b c d to.log to_now.log before behind (p.grows t);
  whole = λ t empty idle. tt;
  cause = p.cause;
}

module _ (together : SpendTogether) (tells : Bool) (a b c d : ℕ) (result : Result (Unit {0}) CopyFault) (from from_mid from_now to to_mid to_now : State) (one : CopiesPart tells a b (Ok tt) from from_mid to to_mid) (two : CopiesPart tells c d result from_mid from_now to_mid to_now) where
  pub reads : OnlyReads (fails_reading result) from from_now
  reads = reads_on (fails_reading result) from from_mid from_now one.reads two.reads

  pub spends : (most : ℕ) → (b - a) + (d - c) ≤ most → WritesAndWaits (fails_writing result) most to to_now
  spends most few = at_most (fails_writing result) ((b - a) + (d - c)) most to to_now few (writes_on together (fails_writing result) (b - a) (d - c) to to_mid to_now one.spends two.spends)

  pub copies : IsTrue tells → from.log ≡ [] → AreCopiesOf from.base to.log → AreCopiesOf from.base to_now.log
  copies t empty before = by_base (λ (at : Blocks). AreCopiesOf at to_mid.log) (λ (at : Blocks). AreCopiesOf at to_now.log) one.reads.same.base (two.copies t (one.unwritten t ∙ empty)) (one.copies t empty before)

  -- what the second part copied
  pub second : IsTrue tells → from.log ≡ [] → ((x : ℕ) → (cell_of to.base to.log x).pending ≡ []) → OnOk result (CopiesRange from.base c d to.base to_mid.log to_now.log)
  second t empty idle =
      let here : (x : ℕ) → (cell_of to_mid.base to_mid.log x).pending ≡ [] = subst (λ (base : Blocks). (x : ℕ) → (cell_of base to_mid.log x).pending ≡ []) (sym one.spends.2.same.base) (idle_after from.base to.base a b to.log to_mid.log idle (one.whole t empty idle)) in
      on_ok result (λ (r : CopiesRange from_mid.base c d to_mid.base to_mid.log to_now.log). subst (λ (at : Blocks). CopiesRange at c d to.base to_mid.log to_now.log) one.reads.same.base (subst (λ (base : Blocks). CopiesRange from_mid.base c d base to_mid.log to_now.log) one.spends.2.same.base r))
      (two.whole t (one.unwritten t ∙ empty) here)

  grows : IsTrue tells → (low high : ℕ) → low ≤ a → b ≤ high → low ≤ c → d ≤ high → GrowsWithin low high to.log to_now.log
  grows t low high a_low b_high c_low d_high = grows_on low high to.log to_mid.log to_now.log (grows_wider a b low high to.log to_mid.log a_low b_high (one.grows t)) (grows_wider c d low high to_mid.log to_now.log c_low d_high (two.grows t))

-- a part, and the one behind it
pub part_then : SpendTogether → (tells : Bool) (a b c : ℕ) (result : Result (Unit {0}) CopyFault) (from from_mid from_now to to_mid to_now : State) → a ≤ b → b ≤ c → CopiesPart tells a b (Ok tt) from from_mid to to_mid → CopiesPart tells b c result from_mid from_now to_mid to_now
    → CopiesPart tells a c result from from_now to to_now
part_then together tells a b c result from from_mid from_now to to_mid to_now low high one two = record {
  reads = reads together tells a b b c result from from_mid from_now to to_mid to_now one two;
  unwritten = λ t. two.unwritten t ∙ one.unwritten t;
  spends = spends together tells a b b c result from from_mid from_now to to_mid to_now one two (c - a) (omega (arith, low, high));
  copies = copies together tells a b b c result from from_mid from_now to to_mid to_now one two;
  grows = λ t. grows together tells a b b c result from from_mid from_now to to_mid to_now one two t a c (omega arith) high low (omega arith);
  whole = λ t empty idle. on_ok result (range_then from.base to.base a b c to.log to_mid.log to_now.log low high (one.whole t empty idle)) (second together tells a b b c result from from_mid from_now to to_mid to_now one two t empty idle);
  cause = two.cause;
}

-- and the one before it
pub part_before : SpendTogether → (tells : Bool) (a b c : ℕ) (result : Result (Unit {0}) CopyFault) (from from_mid from_now to to_mid to_now : State) → a ≤ b → b ≤ c → CopiesPart tells b c (Ok tt) from from_mid to to_mid → CopiesPart tells a b result from_mid from_now to_mid to_now
    → CopiesPart tells a c result from from_now to to_now
part_before together tells a b c result from from_mid from_now to to_mid to_now low high one two = record {
  reads = reads together tells b c a b result from from_mid from_now to to_mid to_now one two;
  unwritten = λ t. two.unwritten t ∙ one.unwritten t;
  spends = spends together tells b c a b result from from_mid from_now to to_mid to_now one two (c - a) (omega (arith, low, high));
  copies = copies together tells b c a b result from from_mid from_now to to_mid to_now one two;
  grows = λ t. grows together tells b c a b result from from_mid from_now to to_mid to_now one two t a c low (omega arith) (omega arith) high;
  whole = λ t empty idle. on_ok result (range_before from.base to.base a b c to.log to_mid.log to_now.log low high (one.whole t empty idle)) (second together tells b c a b result from from_mid from_now to to_mid to_now one two t empty idle);
  cause = two.cause;
}

-- A block alone.

module _ (together : SpendTogether) (tells : Bool) (b : ℕ) (x : List ℕ) (from from_now to to_mid : State) (reads : OnlyReads false from from_now) (log : IsTrue tells → from_now.log ≡ from.log) (bytes : IsTrue tells → from.log ≡ [] → x ≡ from.base b) where
  here : b ≡ b + 0
  here = omega arith

  there : IsTrue tells → from.log ≡ [] → x ≡ from.base (b + 0)
  there t empty = subst (λ (c : ℕ). x ≡ from.base c) here (bytes t empty)

  -- it couldn't be written
  pub puts_unwritten : {E : Type 0} (e : E) → OnlyWrites true to to_mid → (IsTrue tells → AddsWrite b x (Err e) to.log to_mid.log) → (IsTrue tells → HasFailed to_mid) → CopiesPart tells b (b + 1) (Err Written) from from_now to to_mid
  puts_unwritten e writes adds failed =
      copies_none tells b 1 (0 ∷ []) Written from from_now to to_mid
      (sends_unwritten together tells b 0 (0 ∷ []) from from to to (sends_none tells b (0 ∷ []) from to) from_now reads log x there e 1 to_mid (omega arith) writes (λ t. subst (λ (c : ℕ). AddsWrite c x (Err e) to.log to_mid.log) here (adds t)) failed)

  module _ (laws : CellLaws) (ticket : ℕ) (writes : OnlyWrites false to to_mid) (adds : IsTrue tells → AddsWrite {E = Unit {0}} b x (Ok ticket) to.log to_mid.log) where
    sent : SendsStretch tells b 1 (ticket ∷ []) (Ok tt) from from_now to to_mid
    sent =
        sends_one together tells b 0 (0 ∷ []) from from to to (sends_none tells b (0 ∷ []) from to) from_now reads log x there laws (omega arith) ticket to_mid writes
        (λ t. subst (λ (c : ℕ). AddsWrite {E = Unit {0}} c x (Ok ticket) to.log to_mid.log) here (adds t))

    module _ (now : State) (hears : IsTrue tells → AddsNotices to_mid.log now.log) where
      -- it was, and the wait failed
      pub puts_unheard : OnlyWaits true to_mid now → (IsTrue tells → IsAccepted ticket to_mid.log → HasFailed now) → CopiesPart tells b (b + 1) (Err Written) from from_now to now
      puts_unheard waits failed =
          copies_stretch together tells b 1 (ticket ∷ []) (Err Written) from from_now to to_mid now sent
          (waits_failed together tells 0 1 (ticket ∷ []) to_mid to_mid (waits_none tells 1 (ticket ∷ []) to_mid) (omega arith) now hears 1 (omega arith) waits failed)

      -- it is durable
      pub puts : OnlyWaits false to_mid now → (IsTrue tells → IsNoticed ticket now.log) → CopiesPart tells b (b + 1) (Ok tt) from from_now to now
      puts waits noticed =
          copies_stretch together tells b 1 (ticket ∷ []) (Ok tt) from from_now to to_mid now sent
          (waits_one together tells 0 1 (ticket ∷ []) to_mid to_mid (waits_none tells 1 (ticket ∷ []) to_mid) (omega arith) now hears laws waits noticed)

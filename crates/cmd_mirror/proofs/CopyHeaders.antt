-- The headers of a copying: the two blocks, one after the other, and all blocks with them.
use Rattle.std.proofs.Common.{◌≡◌, ◌⊎◌, inr, ⊎_elim, ℕ, ◌+◌, ◌-◌, ◌<◌, ◌≤◌, ◌==◌, Bool, true, false, IsTrue, List, [], ◌++◌, Result, Ok, Err, sym, ◌∙◌, ap, subst, arith, append-nil, append_assoc}
use Rattle.std.proofs.lemmas.Bool.{cases_lt, eqb-false, false≢true}
use Rattle.base_types.specs.Seal.{Blocks}
use Rattle.disk_contract.specs.declared.event.Event.{Event}
use Rattle.disk_contract.specs.Cell.{cell_of}
use Rattle.disk_contract.specs.Disk.{OnlyReads, State}
use Rattle.layout_journal.specs.declared.header.Header.{Header}
use Rattle.layout_journal.specs.Run.{Newest}
use Rattle.crash_record.specs.Laws.{HeadersNeedASize}
use Rattle.cmd_mirror.specs.declared.copying.CopyFault.{CopyFault}
use Rattle.cmd_mirror.specs.declared.copying.CopyFault.TheVariants.{Read as Unread}
use Rattle.cmd_mirror.specs.Copies.{AreCopied, AreWithin, ComeInTurn, CopiesBlocks, CopiesHeaders, CopiesPart, CopiesRange, GrowsWithin, HeadersComeLast, fails_writing}
use Rattle.cmd_mirror.proofs.CopyOrder.{grows_none, joined, none_come, small_comes, some_come, turn_alone, turn_both, wider}
use Rattle.cmd_mirror.proofs.CopySteps.{SpendTogether, at_most, idle_after, no_copies, on_ok, part_before, part_then, part_to, reads, second, spends, copies, writes_nothing}

-- The two blocks.

-- the newest header, where the one has one, is in this slot
abbrev pub IsNewestIn : Bool → ℕ → State → Type 0
IsNewestIn tells first from = IsTrue tells → from.log ≡ [] → (slot : ℕ) (h : Header) → Newest from.blocks from.base slot h → slot ≡ first

-- one of two slots, which isn't the second
pub is_slot_0 : (slot found : ℕ) → (found == 1) ≡ false → found < 2 → slot ≡ found → slot ≡ 0
is_slot_0 slot found other low is = omega (arith, is, low, eqb-false found 1 other)

-- where so the blocks of the two slots say
pub newest_by : (tells : Bool) (n first : ℕ) (from : State) (zero one : List ℕ) → n ≡ from.blocks → ((img : Blocks) → zero ≡ img 0 → one ≡ img 1 → (slot : ℕ) (h : Header) → Newest n img slot h → slot ≡ first) → (IsTrue tells → from.log ≡ [] → zero ≡ from.base 0) → (IsTrue tells → from.log ≡ [] → one ≡ from.base 1)
    → IsNewestIn tells first from
newest_by tells n first from zero one size says is_zero is_one t empty slot h newest = says from.base (is_zero t empty) (is_one t empty) slot h (subst (λ (m : ℕ). Newest m from.base slot h) (sym size) newest)

-- what was read of a disk is in it as before, once it was read more
pub bytes_on : (tells : Bool) (from now : State) (b : ℕ) (x : List ℕ) → OnlyReads false from now → (IsTrue tells → now.log ≡ from.log) → (IsTrue tells → from.log ≡ [] → x ≡ from.base b) → IsTrue tells → now.log ≡ [] → x ≡ now.base b
bytes_on tells from now b x reads log is t empty = is t (sym (log t) ∙ empty) ∙ sym (ap (λ (at : Blocks). at b) reads.same.base)

-- one couldn't be read, and nothing was written
pub headers_unread : (tells : Bool) (from now to : State) → OnlyReads true from now → (IsTrue tells → now.log ≡ from.log) → CopiesHeaders tells (Err Unread) from now to to
headers_unread tells from now to reads log = record {
  part = record {
    reads = reads;
    unwritten = log;
    spends = at_most false 0 2 to to (omega arith) (writes_nothing to);
    copies = λ t empty before. before;
    grows = λ t. grows_none 0 2 to.log;
    whole = λ t empty idle. tt;
    cause = λ t is. absurd (false≢true is);
  };
  grows = λ t. record { more = []; log = sym (append-nil to.log); within = tt };
  order = λ t empty idle. turn_alone from.blocks from.base to.base to.log [] idle (λ slot h newest. tt);
}

-- the first of them couldn't be written
pub headers_stopped : (tells : Bool) (first : ℕ) (fault : CopyFault) (from from_now to to_now : State) → first < 2 → IsNewestIn tells first from → CopiesPart tells first (first + 1) (Err fault) from from_now to to_now → CopiesHeaders tells (Err fault) from from_now to to_now
headers_stopped tells first fault from from_now to to_now low newest_in p = record {
  part = part_to tells first (first + 1) 0 2 fault from from_now to to_now (omega arith) (omega (arith, low)) p;
  grows = λ t. record { more = (p.grows t).more; log = (p.grows t).log; within = wider first (first + 1) 0 2 (p.grows t).more (omega arith) (omega (arith, low)) (p.grows t).within };
  order = λ t empty idle.
      turn_alone from.blocks from.base to.base to.log (p.grows t).more idle (λ slot h newest. subst (λ (m : ℕ). AreWithin m (m + 1) (p.grows t).more) (sym (newest_in t empty slot h newest)) (p.grows t).within);
}

-- the one, and then the other
both : (a b c d : ℕ) (old mid new : List Event) → b ≤ 2 → d ≤ 2 → (one : GrowsWithin a b old mid) (two : GrowsWithin c d mid new) → (new ≡ old ++ (one.more ++ two.more)) × AreWithin 0 2 (one.more ++ two.more)
both a b c d old mid new low high one two = (
  two.log ∙ ap (λ (l : List Event). l ++ two.more) one.log ∙ append_assoc old one.more two.more,
  joined 0 2 one.more two.more (wider a b 0 2 one.more (omega arith) low one.within) (wider c d 0 2 two.more (omega arith) high two.within),
)

module _ (together : SpendTogether) (tells : Bool) (result : Result (Unit {0}) CopyFault) (from from_mid from_now to to_mid to_now : State) where
  -- block 1 was first
  pub headers_from_second : IsNewestIn tells 1 from → CopiesPart tells 1 2 (Ok tt) from from_mid to to_mid → CopiesPart tells 0 1 result from_mid from_now to_mid to_now → CopiesHeaders tells result from from_now to to_now
  headers_from_second newest_in one two = record {
    part = part_before together tells 0 1 2 result from from_mid from_now to to_mid to_now (omega arith) (omega arith) one two;
    grows = λ t. let are = both 1 2 0 1 to.log to_mid.log to_now.log (omega arith) (omega arith) (one.grows t) (two.grows t) in record { more = (one.grows t).more ++ (two.grows t).more; log = are.0; within = are.1 };
    order = λ t empty idle.
        turn_both from.blocks from.base to.base to.log (one.grows t).more (two.grows t).more 1 idle (newest_in t empty) (one.grows t).within (two.grows t).within
        (subst (λ (l : List Event). cell_of to.base l 1 ≡ record { settled = from.base 1; pending = [] }) (one.grows t).log ((one.whole t empty idle).copied 1 (omega arith) (omega arith)));
  }

  -- block 0 was
  pub headers_from_first : IsNewestIn tells 0 from → CopiesPart tells 0 1 (Ok tt) from from_mid to to_mid → CopiesPart tells 1 2 result from_mid from_now to_mid to_now → CopiesHeaders tells result from from_now to to_now
  headers_from_first newest_in one two = record {
    part = part_then together tells 0 1 2 result from from_mid from_now to to_mid to_now (omega arith) (omega arith) one two;
    grows = λ t. let are = both 0 1 1 2 to.log to_mid.log to_now.log (omega arith) (omega arith) (one.grows t) (two.grows t) in record { more = (one.grows t).more ++ (two.grows t).more; log = are.0; within = are.1 };
    order = λ t empty idle.
        turn_both from.blocks from.base to.base to.log (one.grows t).more (two.grows t).more 0 idle (newest_in t empty) (one.grows t).within (two.grows t).within
        (subst (λ (l : List Event). cell_of to.base l 0 ≡ record { settled = from.base 0; pending = [] }) (one.grows t).log ((one.whole t empty idle).copied 0 (omega arith) (omega arith)));
  }

-- All blocks.

-- what is known of the two disks as the copying begins
abbrev pub Knows : Bool → Bool → State → State → Type 0
Knows tells told from to = IsTrue tells → IsTrue told × (from.log ≡ []) × (to.log ≡ [])

-- nothing is pending on a disk with no event
idle_blank : (to : State) → to.log ≡ [] → (x : ℕ) → (cell_of to.base to.log x).pending ≡ []
idle_blank to blank x = ap (λ (l : List Event). (cell_of to.base l x).pending) blank

-- what came behind a log of no event
all_of : (log more now : List Event) → log ≡ [] → now ≡ log ++ more → now ≡ more
all_of log more now blank is = is ∙ ap (λ (l : List Event). l ++ more) blank

module _ (law : HeadersNeedASize) (tells told : Bool) (headers : ℕ) where
  -- the blocks behind the headers weren't copied
  pub headers_left : (fault : CopyFault) (from from_now to to_now : State) → (headers ≡ 2) ⊎ (from.blocks < 2) → Knows tells told from to → CopiesPart told headers from.blocks (Err fault) from from_now to to_now → CopiesBlocks tells (Err fault) from from_now to to_now
  headers_left fault from from_now to to_now size knows p = record {
    reads = p.reads;
    unwritten = λ t. p.unwritten (knows t).0 ∙ (knows t).1;
    spends = at_most (fails_writing (Err fault)) (from.blocks - headers) from.blocks to to_now (omega arith) p.spends;
    copies = λ t. p.copies (knows t).0 (knows t).1 (no_copies from.base to.log (knows t).2);
    order = λ t. ⊎_elim (λ two. behind t two) (λ small. small_comes law from.blocks from.base to.base to_now.log small) size;
    whole = λ t. tt;
    cause = λ t is. p.cause (knows t).0 is;
  }
    where
      behind : IsTrue tells → headers ≡ 2 → HeadersComeLast from.blocks from.base to.base to_now.log
      behind t two =
          let g = p.grows (knows t).0 in
          subst (HeadersComeLast from.blocks from.base to.base) (sym (all_of to.log g.more to_now.log (knows t).2 g.log)) (none_come law from.blocks from.base to.base g.more (subst (λ (h : ℕ). AreWithin h from.blocks g.more) two g.within))

  module _ (together : SpendTogether) (result : Result (Unit {0}) CopyFault) (from from_mid from_now to to_mid to_now : State) (few : headers ≤ from.blocks) (knows : Knows tells told from to) (one : CopiesPart told headers from.blocks (Ok tt) from from_mid to to_mid) where
    -- they were, and then the headers, in this order
    headers_done : CopiesPart told 0 headers result from_mid from_now to_mid to_now → (IsTrue tells → HeadersComeLast from.blocks from.base to.base to_now.log) → CopiesBlocks tells result from from_now to to_now
    headers_done two order = record {
      reads = reads together told headers from.blocks 0 headers result from from_mid from_now to to_mid to_now one two;
      unwritten = λ t. two.unwritten (knows t).0 ∙ one.unwritten (knows t).0 ∙ (knows t).1;
      spends = spends together told headers from.blocks 0 headers result from from_mid from_now to to_mid to_now one two from.blocks (omega (arith, few));
      copies = λ t. copies together told headers from.blocks 0 headers result from from_mid from_now to to_mid to_now one two (knows t).0 (knows t).1 (no_copies from.base to.log (knows t).2);
      order = order;
      whole = λ t.
          on_ok result (λ (r : CopiesRange from.base 0 headers to.base to_mid.log to_now.log). subst (λ (base : Blocks). AreCopied from.base from.blocks base to_now.log) (sym (two.spends.2.same.base ∙ one.spends.2.same.base)) (all t r))
          (second together told headers from.blocks 0 headers result from from_mid from_now to to_mid to_now one two (knows t).0 (knows t).1 (idle_blank to (knows t).2));
      cause = λ t is. two.cause (knows t).0 is;
    }
      where
        all : IsTrue tells → CopiesRange from.base 0 headers to.base to_mid.log to_now.log → AreCopied from.base from.blocks to.base to_now.log
        all t r x below =
            ⊎_elim (λ before. r.copied x (omega arith) before) (λ behind. r.others x (inr behind) ∙ (one.whole (knows t).0 (knows t).1 (idle_blank to (knows t).2)).copied x behind below) (cases_lt x headers)

    -- of a disk with fewer blocks than two
    pub headers_few : from.blocks < 2 → CopiesPart told 0 headers result from_mid from_now to_mid to_now → CopiesBlocks tells result from from_now to to_now
    headers_few small two = headers_done two (λ t. small_comes law from.blocks from.base to.base to_now.log small)

    -- of one that may have headers
    pub headers_last : headers ≡ 2 → CopiesHeaders told result from_mid from_now to_mid to_now → CopiesBlocks tells result from from_now to to_now
    headers_last two last = headers_done (subst (λ (h : ℕ). CopiesPart told 0 h result from_mid from_now to_mid to_now) (sym two) last.part) in_order
      where
        in_order : IsTrue tells → HeadersComeLast from.blocks from.base to.base to_now.log
        in_order t =
            let told_it = (knows t).0 in
            let idle = idle_blank to (knows t).2 in
            let whole = one.whole told_it (knows t).1 idle in
            let g = one.grows told_it in
            let l = last.grows told_it in
            let front : to_mid.log ≡ g.more = all_of to.log g.more to_mid.log (knows t).2 g.log in
            let to_base : to_mid.base ≡ to.base = one.spends.2.same.base in
            let rest : (b : ℕ) → (cell_of to_mid.base to_mid.log b).pending ≡ [] =
            subst (λ (base : Blocks). (b : ℕ) → (cell_of base to_mid.log b).pending ≡ []) (sym to_base) (idle_after from.base to.base headers from.blocks to.log to_mid.log idle whole) in
            let turn : ComeInTurn from_mid.blocks from_mid.base to_mid.base to_mid.log l.more = last.order told_it (one.unwritten told_it ∙ (knows t).1) rest in
            let turn_here : ComeInTurn from.blocks from.base to.base g.more l.more =
            subst (λ (log : List Event). ComeInTurn from.blocks from.base to.base log l.more) front
            (subst (λ (base : Blocks). ComeInTurn from.blocks from.base base to_mid.log l.more) to_base
            (subst (λ (at : Blocks). ComeInTurn from.blocks at to_mid.base to_mid.log l.more) one.reads.same.base (subst (λ (n : ℕ). ComeInTurn n from_mid.base to_mid.base to_mid.log l.more) one.reads.same.blocks turn))) in
            subst (HeadersComeLast from.blocks from.base to.base) (sym (l.log ∙ ap (λ (log : List Event). log ++ l.more) front))
            (some_come law from.blocks from.base to.base g.more (subst (λ (h : ℕ). AreWithin h from.blocks g.more) two g.within) l.more
            (λ b from_two below. subst (λ (log : List Event). cell_of to.base log b ≡ record { settled = from.base b; pending = [] }) front (whole.copied b (omega (arith, two, from_two)) below)) l.within turn_here)

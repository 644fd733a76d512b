-- What becomes of the bay where an image was copied: what is under each name, and where a fault comes from.
use Rattle.std.proofs.Common.{◌≡◌, ◌≢◌, ◌⊎◌, inl, inr, ⊎_elim, ℕ, ◌<◌, ◌≤◌, ◌==◌, ◌||◌, nat_lt, Bool, true, false, IsTrue, if◌then◌else◌, List, [], ◌∷◌, length, replicate, Option, None, Some, Result, Ok, Err, OnOk, OnErr, refl, sym, ap, ap₂, ◌∙◌, subst, arith}
use Rattle.std.proofs.lemmas.Bool.{cases_lt, eqb-true, false≢true}
use Rattle.std.proofs.lemmas.List.{ext_get_or, get_or-replicate, length-replicate}
use Rattle.base_types.specs.Counts.{after_call, next_count}
use Rattle.base_types.specs.Seal.{Blocks, blocks_of}
use Rattle.disk_contract.specs.declared.bay.BayFault.{BayFault}
use Rattle.disk_contract.specs.declared.bay.BayFault.TheVariants as bay
use Rattle.disk_contract.specs.declared.event.Event.{Event}
use Rattle.disk_contract.specs.declared.event.Event.TheVariants.{Wrote, Lost, Noticed}
use Rattle.disk_contract.specs.Bay.{BayState, BeginsWith, Begins, Closes, HasBlocks, Kept, Makes, Opens, SameImage, TakesBack, fresh, has_faults, image_of, zero_blocks}
use Rattle.disk_contract.specs.Cell.{Cell, accepted, accepted_from, cell_of, is_lost}
use Rattle.disk_contract.specs.Disk.{State}
use Rattle.cmd_image.specs.declared.make_refusal.MakeRefusal.{MakeRefusal}
use Rattle.cmd_image.specs.declared.make_refusal.MakeRefusal.TheVariants.{Fault, NoMemory}
use Rattle.cmd_image.specs.Makes.{HasMakeCause, make_refusal_of_bay}
use Rattle.cmd_image.specs.Staying.{is_make_fault}
use Rattle.cmd_mirror.specs.declared.copying.CopyFault.{CopyFault}
use Rattle.cmd_mirror.specs.declared.copying.CopyFault.TheVariants.{Read, Write}
use Rattle.cmd_mirror.specs.Copies.{AreCopied, AreCopiesOf, CopiesBlocks, HasPart, HaveOneImage, copy_answer_of, fails_reading, fails_writing}
use Rattle.cmd_mirror.specs.Returns.{ClosesBoth, Copied, CopiesBoth, HasCopyReason}

-- The images.

-- a list of as many blocks with the same bytes is the same
same_image : (copy image : List (List ℕ)) → length copy ≡ length image → ((b : ℕ) → b < length image → blocks_of copy b ≡ blocks_of image b) → copy ≡ image
same_image copy image size blocks = ext_get_or [] copy image size (λ b below. blocks b (omega (arith, below, size)))

-- what a disk that was only read leaves under its name is the image with which it began
rests : (from before after : Option Kept) (first last : State) (back : Result (Unit {0}) BayFault) → BeginsWith from first → last.blocks ≡ first.blocks → last.base ≡ first.base → last.log ≡ [] → before ≡ from → OnOk back (TakesBack last [] before after)
    → OnErr back (image_of after ≡ image_of before) → image_of after ≡ image_of from
rests from before after first last (Err why) begins size base log same takes stays = stays ∙ ap image_of same
rests None before after first last (Ok x) begins size base log same takes stays = absurd begins
rests (Some kept) before after first last (Ok x) begins size base log same takes stays = by after (subst (λ (k : Option Kept). TakesBack last [] k after) same takes)
  where
    by : (now : Option Kept) → TakesBack last [] (Some kept) now → image_of now ≡ Some kept.image
    by None none = absurd none
    by (Some new) is = ap Some (same_image new.image kept.image (is.image.length ∙ size ∙ begins.blocks)
        (λ b below. is.image.each b (omega (arith, below, size, begins.blocks)) ∙ ap (λ (l : List Event). accepted last.base l b) log ∙ ap (λ (at : Blocks). at b) (base ∙ begins.base)))

-- of a block that was written with its copies alone, the last accepted bytes are those, or what it had
accepted_part : (at : Blocks) (b : ℕ) (x : List ℕ) (log : List Event) → AreCopiesOf at log → (accepted_from b x log ≡ at b) ⊎ (accepted_from b x log ≡ x)
accepted_part at b x [] copies = inr refl
accepted_part at b x (Lost c y ∷ es) copies = accepted_part at b x es copies.1
accepted_part at b x (Noticed t ∷ es) copies = accepted_part at b x es copies
accepted_part at b x (Wrote t c y ∷ es) copies =
    ⊎_elim inl (λ same. elim (c == b) as (λ v. (c == b) ≡ v → (if v then y else x) ≡ (if c == b then y else x) → (accepted_from b (if c == b then y else x) es ≡ at b) ⊎ (accepted_from b (if c == b then y else x) es ≡ x)) [
      | true ↦ λ e is. inl (same ∙ sym is ∙ copies.0 ∙ ap at (eqb-true c b e))
      | false ↦ λ e is. inr (same ∙ sym is)
    ] refl refl) (accepted_part at b (if c == b then y else x) es copies.1)

-- what the disk that was written leaves under its name, where that had zeros before
record LeavesOf (at : Blocks) (n : ℕ) (after : Option Kept) : Type 0 where
  pub image : List (List ℕ)
  pub is : image_of after ≡ Some image
  pub size : length image ≡ n
  pub blocks : (b : ℕ) → b < n → (blocks_of image b ≡ at b) ⊎ (blocks_of image b ≡ replicate 1024 0)

zeros : (n b : ℕ) → b < n → blocks_of (zero_blocks n) b ≡ replicate 1024 0
zeros n b below = get_or-replicate n b (replicate 1024 0) [] below

leaves : (at : Blocks) (n : ℕ) (last : State) (before after : Option Kept) (back : Result (Unit {0}) BayFault) → before ≡ Some (fresh (zero_blocks n)) → last.blocks ≡ n → last.base ≡ blocks_of (zero_blocks n) → AreCopiesOf at last.log
    → OnOk back (TakesBack last [] before after) → OnErr back (image_of after ≡ image_of before) → LeavesOf at n after
leaves at n last before after (Err why) blank size base copies takes stays = record {
  image = zero_blocks n;
  is = stays ∙ ap image_of blank;
  size = length-replicate n (replicate 1024 0);
  blocks = λ b below. inr (zeros n b below);
}
leaves at n last before after (Ok x) blank size base copies takes stays = by after (subst (λ (k : Option Kept). TakesBack last [] k after) blank takes)
  where
    by : (now : Option Kept) → TakesBack last [] (Some (fresh (zero_blocks n))) now → LeavesOf at n now
    by None none = absurd none
    by (Some new) is = record {
      image = new.image;
      is = refl;
      size = is.image.length ∙ size;
      blocks = λ b below.
          let has : blocks_of new.image b ≡ accepted_from b (last.base b) last.log = is.image.each b (omega (arith, below, size)) in
          ⊎_elim (λ copy. inl (has ∙ copy)) (λ old. inr (has ∙ old ∙ ap (λ (from : Blocks). from b) base ∙ zeros n b below)) (accepted_part at b (last.base b) last.log copies);
    }

-- and where all of it was copied, that is the image
copied_all : (idle : (base : Blocks) (log : List Event) (b : ℕ) → (cell_of base log b).pending ≡ [] → (is_lost b log ≡ false) × (accepted base log b ≡ (cell_of base log b).settled))
    (from : Kept) (first last : State) (before after : Option Kept) → Begins from.image first → before ≡ Some (fresh (zero_blocks first.blocks)) → last.blocks ≡ first.blocks → AreCopied first.base first.blocks last.base last.log
    → TakesBack last [] before after → image_of after ≡ Some from.image
copied_all idle from first last before after begins blank size copied takes = by after (subst (λ (k : Option Kept). TakesBack last [] k after) blank takes)
  where
    by : (now : Option Kept) → TakesBack last [] (Some (fresh (zero_blocks first.blocks))) now → image_of now ≡ Some from.image
    by None none = absurd none
    by (Some new) is = ap Some (same_image new.image from.image (is.image.length ∙ size ∙ begins.blocks)
        (λ b below.
        let cell = copied b (omega (arith, below, begins.blocks)) in
        is.image.each b (omega (arith, below, size, begins.blocks)) ∙ (idle last.base last.log b (ap (λ (c : Cell). c.pending) cell)).1 ∙ ap (λ (c : Cell). c.settled) cell ∙ ap (λ (at : Blocks). at b) begins.base))

-- The counts.

-- the count of a bay's faults rose on the way, or is at its last value
rose : (a b c d : ℕ) → a ≤ b → b ≤ c → (b < c) ⊎ (c ≡ 18446744073709551615) → c ≤ d → (a < d) ⊎ (d ≡ 18446744073709551615)
rose a b c d first next (inl more) last = inl (omega (arith, first, more, last))
rose a b c d first next (inr end) last = ⊎_elim inl (λ over. inr (omega (arith, first, next, end, last, over))) (cases_lt a d)

-- a disk whose counts were 0 has faults where one was counted
faulty : (unread failed : Bool) (d : State) → d.read_faults ≡ after_call unread 0 → d.faults ≡ after_call failed 0 → has_faults d ≡ (unread || failed)
faulty unread failed d reads others = ap₂ (λ (r f : ℕ). nat_lt 0 r || nat_lt 0 f) reads others ∙ by unread failed
  where
    by : (u f : Bool) → (nat_lt 0 (after_call u 0) || nat_lt 0 (after_call f 0)) ≡ (u || f)
    by true f = refl
    by false true = refl
    by false false = refl

or_false : (b : Bool) → (b || false) ≡ b
or_false true = refl
or_false false = refl

-- The bay.

module _ {D : Type 0} (state : D → State) (tells : Bool) (name other : List ℕ) (apart : name ≢ other) (old : BayState) where
  -- no disk was opened
  pub none : (fault : BayFault) (new : BayState) → Opens tells state name (Err fault) old new → Copied tells name other (Err (make_refusal_of_bay fault)) old new
  unfolding is_make_fault
  none fault new opens = record {
    copied = λ t. tt;
    part = λ t. inl (ap image_of (opens.kept t other));
    kept = λ t. ap image_of (opens.kept t name);
    others = λ t each aside beside. opens.kept t each;
    comes = inl (record { fault = fault; opens = unopened; answer = refl });
    cause = cause fault opens;
    reason = λ t is. reason fault opens t (ap is_make_fault is);
  }
    where
      unopened : Opens tells (λ (d : State). d) name (Err fault) old new
      unopened = record { counts = tt; disk = λ t. tt; manner = λ t. tt; kept = opens.kept; cause = opens.cause; fails = opens.fails; same = opens.same; disk_faults = opens.disk_faults; handed = opens.handed; closed = opens.closed }

      cause : (f : BayFault) → Opens tells state name (Err f) old new → HasMakeCause {T = Unit {0}} (Err (make_refusal_of_bay f)) old new
      cause bay.Fault is = inl is.cause.1
      cause bay.NoMemory is = is.disk_faults

      reason : (f : BayFault) → Opens tells state name (Err f) old new → IsTrue tells → is_make_fault (Err (make_refusal_of_bay f)) ≡ true → HasCopyReason tells name other (Err (make_refusal_of_bay f)) old new
      reason bay.Fault is t same = inl (is.fails t)
      reason bay.NoMemory is t same = absurd (false≢true same)

  module _ (opened : BayState) (first : D) (opens : Opens tells state name (Ok first) old opened) where
    by_state : Opens tells (λ (d : State). d) name (Ok (state first)) old opened
    by_state = record { counts = opens.counts; disk = opens.disk; manner = opens.manner; kept = opens.kept; cause = opens.cause; fails = opens.fails; same = opens.same; disk_faults = opens.disk_faults; handed = opens.handed; closed = opens.closed }

    -- a disk that was just opened has no event
    pub empty : IsTrue tells → (state first).log ≡ []
    empty t = by (old.kept name) (opens.disk t)
      where
        by : (kept : Option Kept) → BeginsWith kept (state first) → (state first).log ≡ []
        by None begins = absurd begins
        by (Some kept) begins = begins.log

    -- and as many blocks as its image has
    has_blocks : (last : State) (now : Option Kept) → IsTrue tells → last.blocks ≡ (state first).blocks → now ≡ old.kept name → HasBlocks last.blocks now
    has_blocks last now t size same = subst (HasBlocks last.blocks) (sym same) (by (old.kept name) (opens.disk t))
      where
        by : (kept : Option Kept) → BeginsWith kept (state first) → HasBlocks last.blocks kept
        by None begins = absurd begins
        by (Some kept) begins = sym (size ∙ begins.blocks)

    -- no disk was made under the other name, and the first went back
    pub one : (made new : BayState) (fault : BayFault) (back : Result (Unit {0}) BayFault) → Makes tells state other (state first).blocks (Err fault) opened made → Closes tells name (state first) [] back made new → Copied tells name other (Err (make_refusal_of_bay fault)) old new
    unfolding is_make_fault
    one made new fault back makes closes = record {
      copied = λ t. tt;
      part = λ t. inl (ap image_of (closes.others t other (λ same. apart (sym same))) ∙ makes.image t ∙ ap image_of (opens.kept t other));
      kept = λ t. rests (old.kept name) (made.kept name) (new.kept name) (state first) (state first) back (opens.disk t) refl refl (empty t) (makes.others t name apart ∙ opens.kept t name) (closes.kept t) (closes.image t);
      others = λ t each aside beside. closes.others t each aside ∙ makes.others t each beside ∙ opens.kept t each;
      comes = inr (inl (record { first = state first; opened = opened; between = made; fault = fault; back = back; opens = by_state; makes = unmade; closes = closes; answer = refl }));
      cause = cause fault makes;
      reason = λ t is. reason fault makes t (ap is_make_fault is);
    }
      where
        unmade : Makes tells (λ (d : State). d) other (state first).blocks (Err fault) opened made
        unmade = record { size = tt; counts = tt; disk = λ t. tt; manner = λ t. tt; kept = makes.kept; image = makes.image; others = makes.others; cause = makes.cause; fails = makes.fails; same = makes.same; disk_faults = makes.disk_faults; handed = makes.handed; closed = makes.closed }

        cause : (f : BayFault) → Makes tells state other (state first).blocks (Err f) opened made → HasMakeCause {T = Unit {0}} (Err (make_refusal_of_bay f)) old new
        cause bay.Fault is = inl (rose old.faults opened.faults made.faults new.faults opens.cause.0 is.cause.0 is.cause.1 closes.cause.0)
        cause bay.NoMemory is =
            closes.disk_faults ∙ ap (λ (failed : Bool). if failed then next_count made.disk_faults else made.disk_faults) (faulty false false (state first) opens.counts.read_faults opens.counts.faults) ∙ is.disk_faults ∙ opens.disk_faults

        reason : (f : BayFault) → Makes tells state other (state first).blocks (Err f) opened made → IsTrue tells → is_make_fault (Err (make_refusal_of_bay f)) ≡ true → HasCopyReason tells name other (Err (make_refusal_of_bay f)) old new
        reason bay.Fault is t same = inl (inl (sym opens.same.may_fail ∙ is.fails t))
        reason bay.NoMemory is t same = absurd (false≢true same)

    -- both were handed out, and both went back
    module _ (made new : BayState) (second : D) (makes : Makes tells state other (state first).blocks (Ok second) opened made) (first_last second_last : State) (copied : Result (Unit {0}) CopyFault) (copies : CopiesBlocks tells copied (state first) first_last (state second) second_last)
        (may_fail : IsTrue tells → 0 < first_last.read_faults → first_last.manner.reads_fail ≡ true) (result : Result (Unit {0}) MakeRefusal) (closes : ClosesBoth tells name other first_last second_last copied result made new)
        (idle : (base : Blocks) (log : List Event) (b : ℕ) → (cell_of base log b).pending ≡ [] → (is_lost b log ≡ false) × (accepted base log b ≡ (cell_of base log b).settled)) where
      both : CopiesBoth tells name other result old new
      both = record {
        first = state first;
        first_last = first_last;
        second = state second;
        second_last = second_last;
        opened = opened;
        made = made;
        between = closes.between;
        copied = copied;
        back_first = closes.back_first;
        back_second = closes.back_second;
        opens = by_state;
        makes = record { size = makes.size; counts = makes.counts; disk = makes.disk; manner = makes.manner; kept = makes.kept; image = makes.image; others = makes.others; cause = makes.cause; fails = makes.fails; same = makes.same; disk_faults = makes.disk_faults; handed = makes.handed; closed = makes.closed };
        copies = copies;
        closes_first = closes.closes_first;
        closes_second = closes.closes_second;
        answer = closes.answer;
      }

      back : other ≢ name
      back same = apart (sym same)

      -- what stands under the other name as the second disk goes back
      blank : IsTrue tells → closes.between.kept other ≡ Some (fresh (zero_blocks (state first).blocks))
      blank t = closes.closes_first.others t other back ∙ makes.kept t

      begins_blank : IsTrue tells → second_last.base ≡ blocks_of (zero_blocks (state first).blocks)
      begins_blank t = copies.spends.2.same.base ∙ (makes.disk t).base

      size : second_last.blocks ≡ (state first).blocks
      size = copies.spends.2.same.blocks ∙ makes.size

      original : IsTrue tells → made.kept name ≡ old.kept name
      original t = makes.others t name apart ∙ opens.kept t name

      kept : IsTrue tells → SameImage name old new
      kept t =
          ap image_of (closes.closes_second.others t name apart)
          ∙ rests (old.kept name) (made.kept name) (closes.between.kept name) (state first) first_last closes.back_first (opens.disk t) copies.reads.same.blocks copies.reads.same.base (copies.unwritten t) (original t) (closes.closes_first.kept t) (closes.closes_first.image t)

      part : IsTrue tells → HasPart (old.kept name) (new.kept other)
      part t = by (old.kept name) (opens.disk t) (leaves (state first).base (state first).blocks second_last (closes.between.kept other) (new.kept other) closes.back_second (blank t) size (begins_blank t) (copies.copies t) (closes.closes_second.kept t) (closes.closes_second.image t))
        where
          by : (from : Option Kept) → BeginsWith from (state first) → LeavesOf (state first).base (state first).blocks (new.kept other) → HasPart from (new.kept other)
          by None begins left = absurd begins
          by (Some from) begins left = record {
            image = from.image;
            part = left.image;
            original = refl;
            copy = left.is;
            size = left.size ∙ begins.blocks;
            blocks = λ b below. ⊎_elim (λ same. inl (same ∙ ap (λ (at : Blocks). at b) begins.base)) inr (left.blocks b (omega (arith, below, begins.blocks)));
          }

      -- all was copied, and the disks went back
      whole : IsTrue tells → AreCopied (state first).base (state first).blocks second_last.base second_last.log → TakesBack second_last [] (closes.between.kept other) (new.kept other) → HaveOneImage (old.kept name) (new.kept other)
      whole t is taken = by (old.kept name) (opens.disk t)
        where
          by : (from : Option Kept) → BeginsWith from (state first) → HaveOneImage from (new.kept other)
          by None begins = absurd begins
          by (Some from) begins = record { image = from.image; original = refl; copy = copied_all idle from (state first) second_last (closes.between.kept other) (new.kept other) begins (blank t) size is taken }

      -- what the answers say
      first_faults : has_faults first_last ≡ (fails_reading copied || false)
      first_faults = faulty (fails_reading copied) false first_last (copies.reads.read_faults ∙ ap (after_call (fails_reading copied)) opens.counts.read_faults) (copies.reads.faults ∙ opens.counts.faults)

      second_faults : has_faults second_last ≡ (false || fails_writing copied)
      second_faults = faulty false (fails_writing copied) second_last (copies.spends.2.read_faults ∙ makes.counts.read_faults) (copies.spends.2.faults ∙ ap (after_call (fails_writing copied)) makes.counts.faults)

      counted : (unread failed : Bool) → fails_reading copied ≡ unread → fails_writing copied ≡ failed → new.disk_faults ≡ (if failed then next_count (if unread then next_count old.disk_faults else old.disk_faults) else (if unread then next_count old.disk_faults else old.disk_faults))
      counted unread failed one two =
          closes.closes_second.disk_faults ∙ ap (λ (f : Bool). if f then next_count closes.between.disk_faults else closes.between.disk_faults) (second_faults ∙ two)
          ∙ ap (λ (n : ℕ). if failed then next_count n else n) (closes.closes_first.disk_faults ∙ ap (λ (u : Bool). if u then next_count made.disk_faults else made.disk_faults) (first_faults ∙ ap (λ (u : Bool). u || false) one ∙ or_false unread)
          ∙ ap (λ (n : ℕ). if unread then next_count n else n) (makes.disk_faults ∙ opens.disk_faults))

      -- where a fault comes from
      cause : (c : Result (Unit {0}) CopyFault) (x y : Result (Unit {0}) BayFault) → copied ≡ c → Closes tells name first_last [] x made closes.between → Closes tells other second_last [] y closes.between new → HasMakeCause (copy_answer_of c x y) old new
      cause (Err Read) x y is one two = inr (counted true false (ap fails_reading is) (ap fails_writing is))
      cause (Err Write) x y is one two = inr (counted false true (ap fails_reading is) (ap fails_writing is))
      cause (Ok u) (Err bay.Fault) y is one two = inl (rose old.faults made.faults closes.between.faults new.faults (omega (arith, opens.cause.0, makes.cause.0)) one.cause.0 one.cause.1 two.cause.0)
      cause (Ok u) (Err bay.NoMemory) y is one two = counted false false (ap fails_reading is) (ap fails_writing is)
      cause (Ok u) (Ok v) (Err bay.Fault) is one two = inl (rose old.faults closes.between.faults new.faults new.faults (omega (arith, opens.cause.0, makes.cause.0, one.cause.0)) two.cause.0 two.cause.1 (omega arith))
      cause (Ok u) (Ok v) (Err bay.NoMemory) is one two = counted false false (ap fails_reading is) (ap fails_writing is)
      cause (Ok u) (Ok v) (Ok w) is one two = counted false false (ap fails_reading is) (ap fails_writing is)

      may : IsTrue tells → IsTrue made.may_fail → IsTrue old.may_fail
      may t is = sym opens.same.may_fail ∙ sym makes.same.may_fail ∙ is

      reason : IsTrue tells → (c : Result (Unit {0}) CopyFault) (x y : Result (Unit {0}) BayFault) → copied ≡ c → Closes tells name first_last [] x made closes.between → Closes tells other second_last [] y closes.between new → is_make_fault (copy_answer_of c x y) ≡ true
          → HasCopyReason tells name other result old new
      unfolding is_make_fault both
      reason t (Err Read) x y is one two fault =
          let some : 0 < first_last.read_faults = omega (arith, copies.reads.read_faults ∙ ap (λ (c : Result (Unit {0}) CopyFault). after_call (fails_reading c) (state first).read_faults) is) in
          inr (both, inl (inl (some, may_fail t some)))
      reason t (Err Write) x y is one two fault =
          let some : 0 < second_last.faults = omega (arith, copies.spends.2.faults ∙ ap (λ (c : Result (Unit {0}) CopyFault). after_call (fails_writing c) (state second).faults) is) in
          inr (both, inr (inr (some, copies.cause t (ap fails_writing is))))
      reason t (Ok u) (Err bay.Fault) y is one two fault = ⊎_elim (λ fails. inl (inl (may t fails))) (λ without. absurd (without (has_blocks first_last (made.kept name) t copies.reads.same.blocks (original t)))) (one.fails t)
      reason t (Ok u) (Err bay.NoMemory) y is one two fault = absurd (false≢true fault)
      reason t (Ok u) (Ok v) (Err bay.Fault) is one two fault =
          ⊎_elim (λ fails. inl (inl (may t (sym one.same.may_fail ∙ fails)))) (λ without. absurd (without (subst (HasBlocks second_last.blocks) (sym (blank t)) (length-replicate (state first).blocks (replicate 1024 0) ∙ sym size)))) (two.fails t)
      reason t (Ok u) (Ok v) (Err bay.NoMemory) is one two fault = absurd (false≢true fault)
      reason t (Ok u) (Ok v) (Ok w) is one two fault = absurd (false≢true fault)

      copied_by : IsTrue tells → (c : Result (Unit {0}) CopyFault) (x y : Result (Unit {0}) BayFault) → OnOk c (AreCopied (state first).base (state first).blocks second_last.base second_last.log) → OnOk y (TakesBack second_last [] (closes.between.kept other) (new.kept other))
          → OnOk (copy_answer_of c x y) (HaveOneImage (old.kept name) (new.kept other))
      copied_by t (Err why) x y is taken = tt
      copied_by t (Ok u) (Err why) y is taken = tt
      copied_by t (Ok u) (Ok v) (Err why) is taken = tt
      copied_by t (Ok u) (Ok v) (Ok w) is taken = whole t is taken

      pub two : Copied tells name other result old new
      unfolding is_make_fault
      two = record {
        copied = λ t. subst (λ (r : Result (Unit {0}) MakeRefusal). OnOk r (HaveOneImage (old.kept name) (new.kept other))) (sym closes.answer) (copied_by t copied closes.back_first closes.back_second (copies.whole t) (closes.closes_second.kept t));
        part = λ t. inr (part t);
        kept = kept;
        others = λ t each aside beside. closes.closes_second.others t each beside ∙ closes.closes_first.others t each aside ∙ makes.others t each beside ∙ opens.kept t each;
        comes = inr (inr both);
        cause = subst (λ (r : Result (Unit {0}) MakeRefusal). HasMakeCause r old new) (sym closes.answer) (cause copied closes.back_first closes.back_second refl closes.closes_first closes.closes_second);
        reason = λ t fault. reason t copied closes.back_first closes.back_second refl closes.closes_first closes.closes_second (ap is_make_fault (sym closes.answer ∙ fault));
      }

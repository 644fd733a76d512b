-- What is read of a segment: its bytes, a window of them at a time, and the appends that lie in it.
use Rattle.std.proofs.Common.{◌≡◌, ◌≢◌, ◌⊎◌, inl, inr, ⊎_elim, ℕ, ◌+◌, ◌-◌, ◌<◌, ◌≤◌, Bool, false, List, [], ◌∷◌, ◌++◌, length, take, drop, slice_get, Option, None, Some, refl, sym, ◌∙◌, ap, subst, arith}
use Rattle.std.specs.List.{AllByRecursion}
use Rattle.std.proofs.lemmas.Bool.{false≢true}
use Rattle.std.proofs.lemmas.Grind.{flat_map-append}
use Rattle.std.proofs.lemmas.List.{append-nil, length-append, append_assoc, drop-drop, length-drop, length-take, take-append-drop}
use Rattle.std.proofs.Math.Seq.{drop-append_seam, take-append-add}
use Rattle.layout_geometry.specs.Geometry.{Geometry}
use Rattle.base_types.specs.Seal.{Blocks}
use Rattle.lang_tree.specs.declared.command.Cmd.{Cmd}
use Rattle.lang_tree.specs.declared.command.Cmd.TheVariants.{Durable, Read}
use Rattle.lang_tree.specs.declared.command.Refusal.{Refusal}
use Rattle.lang_tree.specs.declared.command.Refusal.TheVariants.{NoMemory}
use Rattle.lang_tree.specs.declared.command.Reply.{Reply}
use Rattle.lang_tree.specs.declared.command.Reply.TheVariants.{Bytes, Refused}
use Rattle.lang_tree.specs.Conditions.{refusal}
use Rattle.lang_tree.specs.Run.{Answers, is_of_disk, is_of_memory}
use Rattle.lang_tree.specs.Step.{Session, answered, step}
use Rattle.lang_tree.specs.Tree.{Tree, IsSound, Bounds}
use Rattle.lang_log.specs.Names.{segment_path}
use Rattle.lang_log.specs.Spelling.{AreShort, BeginsWith, IsShort, Passes, spelling, spellings}
use Rattle.lang_log.specs.Segments.{LiesIn, Segment, appends_in}
use Rattle.crash_stands.specs.Stands.{IsTreeOf}
use Rattle.engine_blocks.specs.State.{State}
use Rattle.fs_session.specs.Applying.{Applies}
use Rattle.fs_session.specs.DiskRoom.{IsRoomOf}
use Rattle.fs_session.specs.Memory.{room_of}
use Rattle.fs_session.specs.Sessions.{IsSession}
use Rattle.fs_log.specs.Asked.{Asked, AskedOf, IsLate, is_bytes, is_past_room}
use Rattle.fs_log.specs.Keeping.{Rests}
use Rattle.fs_log.specs.Reading.{HoldsSegment, IsAt}
use Rattle.fs_log.proofs.Holding.{session_of}
use Rattle.fs_log.proofs.Rooms.{RoomLaw, fits_by_itself, fits_now, outside_late, read_answers, read_is_free}

-- a read changes nothing
after_read : (f : Session) (path : List (List ℕ)) (offset count : ℕ) (why : Option Refusal) → (answered f (Read path offset count) why).0 ≡ f
after_read f path offset count None = refl
after_read f path offset count (Some why) = refl

pub reads_only : (f : Session) (path : List (List ℕ)) (offset count : ℕ) → (step f (Read path offset count)).0 ≡ f
reads_only f path offset count = after_read f path offset count (refusal f.limit f.tree (Read path offset count))

-- what all of some segments have the one in their midst has
pub one_of_all : {A : Type 0} (P : A → Type 0) (before : List A) (x : A) (rest : List A) → AllByRecursion P (before ++ x ∷ rest) → P x
one_of_all P [] x rest all = all.0
one_of_all P (y ∷ before) x rest all = one_of_all P before x rest all.1

same_bytes : (a b : List ℕ) → Bytes a ≡ Bytes b → a ≡ b
same_bytes a b is = cc

-- the bytes that a read of a segment was answered by
pub window_is : {S : Type 0} (tells : Bool) (state : S → State)
    → ((g : Geometry) (m : Blocks) (t : Tree) → IsTreeOf g m t → IsSound g.i t)
    → ((s : Segment) (offset count : ℕ) (old new : Session) (reply : Reply) → IsSound old.limit.nodes old.tree → LiesIn old.tree s → step old (Read (segment_path s.first) offset count) ≡ (new, reply) → (reply ≡ Bytes (take count (drop offset (spellings s.appends)))) × (new ≡ old))
    → (s : Segment) (offset count : ℕ) (cmd : Cmd) (reply : Reply) (bytes : List ℕ) (old new : S) → cmd ≡ Read (segment_path s.first) offset count → reply ≡ Bytes bytes → HoldsSegment s (state old) → AskedOf tells state cmd reply old new
    → bytes ≡ take count (drop offset (spellings s.appends))
window_is {S} tells state sound reads s offset count cmd reply bytes old new cmd_is reply_is h asked = by a.answers
  where
    f : (f : Session) × IsSession (state old) f
    f = session_of (state old) h.holds.stands

    a : Asked tells state cmd reply f.0 old new
    a = asked f.0 f.1

    by : Answers is_of_disk f.0 cmd reply a.next → bytes ≡ take count (drop offset (spellings s.appends))
    by (inl is) = same_bytes bytes (take count (drop offset (spellings s.appends))) (sym reply_is
        ∙ (reads s offset count f.0 a.next reply (subst (λ (limit : Bounds). IsSound limit.nodes f.0.tree) (sym f.1.limit) (sound (state old).books.geom (state old).map f.0.tree f.1.tree))
        (one_of_all (LiesIn f.0.tree) h.before s h.rest (h.holds.has f.0.tree f.1.tree).there) (subst (λ (c : Cmd). step f.0 c ≡ (a.next, reply)) cmd_is is)).0)
    by (inr (inl refused)) = absurd (false≢true (sym (ap is_bytes refused.2) ∙ ap is_bytes reply_is))
    by (inr (inr known)) = absurd (false≢true (sym (ap is_bytes known.1.is) ∙ ap is_bytes reply_is))

no_read : (path : List (List ℕ)) (offset count : ℕ) → Read path offset count ≢ Durable
no_read path offset count is = cc

-- a read of a segment that wasn't answered by bytes was refused
pub read_late : {S : Type 0} (tells : Bool) (state : S → State)
    → ((g : Geometry) (m : Blocks) (t : Tree) → IsTreeOf g m t → IsSound g.i t)
    → ((s : Segment) (offset count : ℕ) (old new : Session) (reply : Reply) → IsSound old.limit.nodes old.tree → LiesIn old.tree s → step old (Read (segment_path s.first) offset count) ≡ (new, reply) → (reply ≡ Bytes (take count (drop offset (spellings s.appends)))) × (new ≡ old))
    → RoomLaw tells state → ((s : S) (f : Session) → IsSession (state s) f → IsRoomOf (state s).books.geom f (room_of (state s)))
    → ((old new : Session) (cmd : Cmd) (why : Refusal) → Answers is_of_memory old cmd (Refused why) new → (is_of_disk why ≡ false) ⊎ (why ≡ NoMemory))
    → (s : Segment) (offset count : ℕ) (cmd : Cmd) (reply : Reply) (old new : S) → cmd ≡ Read (segment_path s.first) offset count → HoldsSegment s (state old) → AskedOf tells state cmd reply old new → Applies tells state cmd reply old new → is_bytes reply ≡ false
    → IsLate reply
read_late {S} tells state sound reads rooms room alone s offset count cmd reply old new cmd_is h asked applies none = by a.answers
  where
    f : (f : Session) × IsSession (state old) f
    f = session_of (state old) h.holds.stands

    a : Asked tells state cmd reply f.0 old new
    a = asked f.0 f.1

    fits : is_past_room reply ≡ false
    fits =
        let read = Read (segment_path s.first) offset count in
        let x = rooms old new f.0 read reply f.1 (subst (λ (c : Cmd). Applies tells state c reply old new) cmd_is applies) in
        fits_now (state old).books.geom f.0 x.0 (room_of (state old)) (room_of (state new)) reply read (fits_by_itself alone f.0 read)
        (omega (arith, (room old f.0 f.1).fits, read_is_free (state old).books.geom f.0 (room_of (state old)) (segment_path s.first) offset count))
        (read_answers (state old).books.geom f.0 x.0 (room_of (state old)) (room_of (state new)) reply (segment_path s.first) offset count x.3)

    by : Answers is_of_disk f.0 cmd reply a.next → IsLate reply
    by (inl is) = absurd (false≢true (sym none ∙ ap is_bytes (reads s offset count f.0 a.next reply (subst (λ (limit : Bounds). IsSound limit.nodes f.0.tree) (sym f.1.limit) (sound (state old).books.geom (state old).map f.0.tree f.1.tree))
        (one_of_all (LiesIn f.0.tree) h.before s h.rest (h.holds.has f.0.tree f.1.tree).there) (subst (λ (c : Cmd). step f.0 c ≡ (a.next, reply)) cmd_is is)).0))
    by (inr (inl refused)) = subst IsLate (sym refused.2) (outside_late refused.0 refused.1 (sym (ap is_past_room refused.2) ∙ fits))
    by (inr (inr known)) = absurd (no_read (segment_path s.first) offset count (sym cmd_is ∙ known.1.asked))

-- a segment that the blocks hold they hold behind a call that changes nothing
pub segment_over : (s : Segment) (old new : State) → Rests old new → HoldsSegment s old → HoldsSegment s new
segment_over s old new rests h = record { before = h.before; rest = h.rest; log = h.log; holds = rests.holds (h.before ++ s ∷ h.rest) h.log h.holds }

-- Appends of a segment are short.

pub all_front : {A : Type 0} (P : A → Type 0) (xs ys : List A) → AllByRecursion P (xs ++ ys) → AllByRecursion P xs
all_front P [] ys all = tt
all_front P (x ∷ xs) ys all = (all.0, all_front P xs ys all.1)

pub all_back : {A : Type 0} (P : A → Type 0) (xs ys : List A) → AllByRecursion P (xs ++ ys) → AllByRecursion P ys
all_back P [] ys all = all
all_back P (x ∷ xs) ys all = all_back P xs ys all.1

all_dropped : {A : Type 0} (P : A → Type 0) (n : ℕ) (xs : List A) → AllByRecursion P xs → AllByRecursion P (drop n xs)
all_dropped P n xs all = all_back P (take n xs) (drop n xs) (subst (AllByRecursion P) (sym (take-append-drop n xs)) all)

pub are_short : (s : Segment) (state : State) → HoldsSegment s state → AreShort s.appends
are_short s state h = all_front IsShort s.appends (appends_in h.rest) (all_back IsShort (appends_in h.before) (appends_in (s ∷ h.rest))
    (subst (AllByRecursion IsShort) (h.holds.made.appends ∙ flat_map-append (λ (q : Segment). q.appends) h.before (s ∷ h.rest)) h.holds.made.short))

-- The appends that lie in a window.

pub get_mid : {A : Type 0} (before : List A) (x : A) (rest : List A) → slice_get (before ++ x ∷ rest) (length before) ≡ Some x
get_mid [] x rest = refl
get_mid (y ∷ before) x rest = get_mid before x rest

pub get_dropped : {A : Type 0} (xs : List A) (k : ℕ) (x : A) (rest : List A) → drop k xs ≡ x ∷ rest → slice_get xs k ≡ Some x
get_dropped xs k x rest is =
    let there : k < length xs = omega (arith, length-drop k xs, ap (λ q. length q) is) in
    let front : length (take k xs) ≡ k = omega (arith, length-take k xs, there) in
    subst (λ q. slice_get q k ≡ Some x) (take-append-drop k xs)
    (subst (λ q. slice_get (take k xs ++ q) k ≡ Some x) (sym is) (subst (λ n. slice_get (take k xs ++ x ∷ rest) n ≡ Some x) front (get_mid (take k xs) x rest)))

same_head : (a b : List ℕ) → a ∷ [] ≡ b ∷ [] → a ≡ b
same_head a b e = cc

first_of_front : (xs : List (List ℕ)) (x : List ℕ) → x ∷ [] ≡ take 1 xs → (rest : List (List ℕ)) × (xs ≡ x ∷ rest)
first_of_front [] x is = absurd cc
first_of_front (y ∷ xs) x is = (xs, ap (λ (z : List ℕ). z ∷ xs) (sym (same_head x y is)))

module _ (read_back : (appends passed : List (List ℕ)) (rest : List ℕ) → AreShort appends → AreShort passed → spellings appends ≡ spellings passed ++ rest → (passed ≡ take (length passed) appends) × (rest ≡ spellings (drop (length passed) appends)))
    (s : Segment) (offset others : ℕ) (at : IsAt s offset others) (short : AreShort s.appends) (window : List ℕ) (is : window ≡ take 65540 (drop offset (spellings s.appends))) where
  abbrev left : List (List ℕ)
  left = drop others s.appends

  abbrev past : List ℕ
  past = drop 65540 (spellings left)

  short_left : AreShort left
  short_left = all_dropped IsShort others s.appends short

  whole : spellings left ≡ window ++ past
  whole = sym (take-append-drop 65540 (spellings left)) ∙ ap (λ (q : List ℕ). q ++ past) (ap (λ (q : List ℕ). take 65540 q) (sym at) ∙ sym is)

  -- those that were passed come behind those before them
  pub passed_at : (most count taken : ℕ) → Passes window most count taken → IsAt s (offset + taken) (others + count)
  passed_at most count taken passes =
      let p = passes.so_far in
      let rest = drop taken window ++ past in
      let parts : spellings left ≡ spellings p.passed ++ rest = whole ∙ (ap (λ (q : List ℕ). q ++ past) p.is ∙ append_assoc (spellings p.passed) (drop taken window) past) in
      let back = read_back left p.passed rest short_left p.short parts in
      let behind : drop taken (spellings left) ≡ rest = subst (λ (n : ℕ). drop n (spellings left) ≡ rest) (sym p.takes) (ap (λ (q : List ℕ). drop (length (spellings p.passed)) q) parts ∙ drop-append_seam (spellings p.passed) rest) in
      sym (drop-drop taken offset (spellings s.appends))
      ∙ (ap (λ (q : List ℕ). drop taken q) at ∙ (behind ∙ (back.1 ∙ ap (λ (q : List (List ℕ)). spellings q) (ap (λ (n : ℕ). drop n left) (sym p.counts) ∙ drop-drop count others s.appends))))

  -- the append with which the window begins is the next one
  pub append_is : (append : List ℕ) → BeginsWith window append → slice_get s.appends others ≡ Some append
  append_is append begins =
      let rest = begins.rest ++ past in
      let parts : spellings left ≡ spellings (append ∷ []) ++ rest =
      whole ∙ (ap (λ (q : List ℕ). q ++ past) begins.is ∙ (append_assoc (spelling append) begins.rest past ∙ ap (λ (q : List ℕ). q ++ rest) (sym (append-nil (spelling append))))) in
      let back = read_back left (append ∷ []) rest short_left (begins.short, tt) parts in
      let first = first_of_front left append back.0 in
      get_dropped s.appends others append first.0 first.1

  -- Where there is a next one, the window begins with it.
  module _ (some : others < length s.appends) where
    abbrev Next : Type 0
    Next = (append : List ℕ) × BeginsWith window append

    pub begins_with_next : Next
    begins_with_next = by left refl
      where
        by : (appends : List (List ℕ)) → left ≡ appends → Next
        by [] none = absurd (omega (arith, some, ap (λ (q : List (List ℕ)). length q) none, length-drop others s.appends))
        by (append ∷ rest) are =
            let small : IsShort append = (subst AreShort are short_left).0 in
            let room = 65540 - length (spelling append) in
            let room_is : 65540 ≡ length (spelling append) + room = omega (arith, small) in (
              append,
              record {
                rest = take room (spellings rest);
                short = small;
                is = is ∙ (ap (λ (q : List ℕ). take 65540 q) (at ∙ ap (λ (q : List (List ℕ)). spellings q) are)
                    ∙ (ap (λ (n : ℕ). take n (spelling append ++ spellings rest)) room_is ∙ take-append-add (spelling append) (spellings rest) room));
              },
            )

    -- so one append at least is passed
    pub some_pass : (most count taken : ℕ) → Passes window most count taken → 0 < most → count ≡ 0 → ⊥
    some_pass most count taken passes asked none =
        let p = passes.so_far in
        let next = begins_with_next in
        let passed_none : p.passed ≡ [] = nothing p.passed (sym p.counts ∙ none) in
        let taken_none : taken ≡ 0 = p.takes ∙ ap (λ (q : List (List ℕ)). length (spellings q)) passed_none in
        passes.ends (omega (arith, asked, none)) next.0 (subst (λ (n : ℕ). BeginsWith (drop n window) next.0) (sym taken_none) next.1)
      where
        nothing : (passed : List (List ℕ)) → length passed ≡ 0 → passed ≡ []
        nothing [] none = refl
        nothing (append ∷ passed) none = absurd (omega (arith, none))

-- where there is a next one, a byte lies within the segment
pub lies_within : (s : Segment) (offset others : ℕ) → IsAt s offset others → others < length s.appends → offset < length (spellings s.appends)
lies_within s offset others at some = by (drop others s.appends) refl
  where
    spelled : (append : List ℕ) → length (spelling append) ≡ 4 + length append
    spelled append = omega arith

    by : (appends : List (List ℕ)) → drop others s.appends ≡ appends → offset < length (spellings s.appends)
    by [] none = absurd (omega (arith, some, ap (λ (q : List (List ℕ)). length q) none, length-drop others s.appends))
    by (append ∷ rest) are = omega (
      arith,
      ap (λ (q : List ℕ). length q) (at ∙ ap (λ (q : List (List ℕ)). spellings q) are),
      length-drop offset (spellings s.appends),
      length-append (spelling append) (spellings rest),
      spelled append,
    )

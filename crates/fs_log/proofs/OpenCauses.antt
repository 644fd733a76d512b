-- Why opening a log is refused: a question needs no room; and the making of `/log` fits what is weighed where that is nothing.
use Rattle.std.proofs.Common.{◌≡◌, ◌≢◌, ◌⊎◌, inl, inr, ⊎_elim, ℕ, ◌≤◌, nat_lt, Bool, true, false, IsTrue, List, [], Option, None, Some, Ok, refl, sym, ◌∙◌, ap, subst, arith}
use Rattle.std.specs.FinMap.{get}
use Rattle.std.proofs.lemmas.Bool.{false≢true, true≢false}
use Rattle.layout_geometry.specs.Geometry.{Geometry, IsGeometry, bitmap_blocks}
use Rattle.lang_tree.specs.declared.command.Cmd.{Cmd}
use Rattle.lang_tree.specs.declared.command.Cmd.TheVariants.{List as ListNames, Mkdir, Read, Stat}
use Rattle.lang_tree.specs.declared.command.Refusal.{Refusal}
use Rattle.lang_tree.specs.declared.command.Refusal.TheVariants as because
use Rattle.lang_tree.specs.declared.command.Reply.{Reply}
use Rattle.lang_tree.specs.declared.command.Reply.TheVariants as replies
use Rattle.lang_tree.specs.Conditions.{refusal}
use Rattle.lang_tree.specs.Figures.{Figures}
use Rattle.lang_tree.specs.Sharing.{BlocksAlone, SharedNodes, accepted_over, figures_over_by}
use Rattle.lang_tree.specs.Run.{Answers, is_of_disk, is_of_memory}
use Rattle.lang_tree.specs.Step.{Session, step}
use Rattle.lang_tree.specs.Tree.{IsSound, Tree, Bounds}
use Rattle.lang_log.specs.Commands.{IsAsked, LacksNode, Leaves}
use Rattle.lang_log.specs.Segments.{HasSegments}
use Rattle.lang_log.specs.Names.{log_path}
use Rattle.engine_blocks.specs.Crashes.{Advances}
use Rattle.engine_blocks.specs.State.{State}
use Rattle.crash_stands.specs.Bounds.{bounds_of}
use Rattle.fs_session.specs.Applying.{Applies}
use Rattle.fs_session.specs.Commands.{is_on_tree}
use Rattle.fs_session.specs.DiskRoom.{ComesBack, IsRoomOf}
use Rattle.fs_session.specs.Memory.{room_of}
use Rattle.fs_session.specs.Room.{IsRefusedIn, Room, figures_in, left_in, most_weight, shared_by, alone_by}
use Rattle.fs_session.specs.Staying.{figures_stay}
use Rattle.fs_session.specs.Sessions.{IsSession}
use Rattle.fs_session.specs.Space.{FailsToFit}
use Rattle.fs_log.specs.declared.refusal.OpenRefusal.{OpenRefusal}
use Rattle.fs_log.specs.declared.refusal.OpenRefusal.TheVariants.{BadLog, Fs as FsRefused}
use Rattle.fs_log.specs.Asked.{is_past_room}
use Rattle.fs_log.specs.Causes.{HasAsked, IsOfLog, WasAnswered, is_too_big}
use Rattle.fs_log.specs.Finding.{AsksOnly, refusal_by, wants_blocks}
use Rattle.fs_log.specs.Opening.{AsksToOpen, IsNotOpened, StandsIn, is_of_room}
use Rattle.fs_log.specs.Ways.{IsQuestion}
use Rattle.fs_log.proofs.Causes.{was_later, was_so}
use Rattle.fs_log.proofs.Rooms.{AnswersTree, RoomLaw, fits_by_itself, fits_now, from_ten, mkdir_answers, mkdir_is_cheap, list_answers, list_is_free, read_answers, read_is_free, stat_answers, stat_is_free, to_seventeen}
use Rattle.fs_log.proofs.Telling.{IsOfDisk}
use Rattle.fs_log.proofs.Ways.{asks_later, asks_only}

-- What is known of refusals of a tree in memory.
abbrev AloneLaw : Type 0
AloneLaw = (old new : Session) (cmd : Cmd) (why : Refusal) → Answers is_of_memory old cmd (replies.Refused why) new → (is_of_disk why ≡ false) ⊎ (why ≡ because.NoMemory)

wants_none : (why : Refusal) → (is_of_disk why ≡ false) ⊎ (why ≡ because.NoMemory) → wants_blocks (replies.Refused why) ≡ false
wants_none why is = grind (arith, true≢false)

-- the tree refuses no command for want of blocks
tree_wants_none : AloneLaw → (f : Session) (cmd : Cmd) → wants_blocks (step f cmd).1 ≡ false
tree_wants_none alone f cmd = by (step f cmd).1 refl
  where
    by : (reply : Reply) → (step f cmd).1 ≡ reply → wants_blocks reply ≡ false
    by (replies.Refused why) is = wants_none why (alone f (step f cmd).0 cmd why (inl (ap (λ (r : Reply). ((step f cmd).0, r)) is)))
    by replies.Ok is = refl
    by (replies.Bytes bytes) is = refl
    by (replies.Stat stat) is = refl
    by (replies.Names names) is = refl
    by (replies.Synced point) is = refl
    by (replies.DurableAt point) is = refl
    by (replies.Known point) is = refl
    by replies.Bad is = refl

no_need : (bitmap : ℕ) (shared : SharedNodes) (alone : BlocksAlone) (limit : Bounds) (t : Tree) (cmd : Cmd) (why : Option Refusal) → (accepted_over bitmap shared alone limit t cmd).need ≡ 0 → (figures_over_by bitmap shared alone limit t cmd why).need ≡ 0
no_need bitmap shared alone limit t cmd None none = none
no_need bitmap shared alone limit t cmd (Some why) none = refl

-- A command that needs no block and costs nothing isn't refused for want of any, and weighs nothing.
module _ (g : Geometry) (f next : Session) (r room : Room) (reply : Reply) (cmd : Cmd) (by_itself : wants_blocks (step f cmd).1 ≡ false) (none : (figures_in g f r cmd).need ≡ 0) (free : (figures_in g f r cmd).cost ≤ 0) (fits : r.weight ≤ most_weight g) where
  -- in a room that came back it needs and costs no more
  needs_back : (back : Room) → ComesBack g f r back → ((figures_in g f back cmd).need ≡ 0) × ((figures_in g f back cmd).cost ≤ 0)
  needs_back back same =
      let figures = figures_stay g f r back cmd same.keeps in
      (ap (λ (n : Figures). n.need) figures ∙ none, omega (arith, ap (λ (n : Figures). n.cost) figures, free))

  refused_so : (back : Room) → ComesBack g f r back → (why : Refusal) → IsRefusedIn g f back cmd why → wants_blocks (replies.Refused why) ≡ false
  refused_so back same why (inl lacks) = by lacks.1
    where
      by : FailsToFit (left_in g f back) back.weight (most_weight g) (figures_in g f back cmd) why → wants_blocks (replies.Refused why) ≡ false
      by (inl full) = absurd (omega (arith, full.blocks, (needs_back back same).0))
      by (inr big) = absurd (omega (arith, big.weight, same.weight, fits, (needs_back back same).1))
  refused_so back same why (inr (inl scatters)) = absurd (omega (arith, scatters.2.some, (needs_back back same).0))
  refused_so back same why (inr (inr lacking)) = ap (λ (w : Refusal). wants_blocks (replies.Refused w)) lacking

  ended : (why : Refusal) → (why ≡ because.Stopped) ⊎ (why ≡ because.Spent) → wants_blocks (replies.Refused why) ≡ false
  ended why (inl is) = ap (λ (w : Refusal). wants_blocks (replies.Refused w)) is
  ended why (inr is) = ap (λ (w : Refusal). wants_blocks (replies.Refused w)) is

  failed : (why : Refusal) → (why ≡ because.DiskFault) ⊎ ((is_on_tree cmd ≡ true) × (why ≡ because.ReadFault)) → wants_blocks (replies.Refused why) ≡ false
  failed why (inl is) = ap (λ (w : Refusal). wants_blocks (replies.Refused w)) is
  failed why (inr is) = ap (λ (w : Refusal). wants_blocks (replies.Refused w)) is.1

  needs_none : AnswersTree g f r cmd reply next room → wants_blocks reply ≡ false
  needs_none (inl refused) = ap wants_blocks refused.2 ∙ ended refused.0 refused.1
  needs_none (inr (back, same, inl (inl done))) = sym (ap (λ x. wants_blocks x.1) done.answer) ∙ by_itself
  needs_none (inr (back, same, inl (inr refused))) = ap wants_blocks refused.2 ∙ refused_so back same refused.0 refused.1
  needs_none (inr (back, same, inr refused)) = ap wants_blocks refused.2 ∙ failed refused.0 refused.1

  weighs_none : AnswersTree g f r cmd reply next room → room.weight ≡ r.weight
  weighs_none (inl refused) = ap (λ (q : Room). q.weight) refused.4
  weighs_none (inr (back, same, inl (inl done))) = omega (arith, done.spends.weight, same.weight, (needs_back back same).1)
  weighs_none (inr (back, same, inl (inr refused))) = ap (λ (q : Room). q.weight) refused.4 ∙ same.weight
  weighs_none (inr (back, same, inr refused)) = ap (λ (q : Room). q.weight) refused.4 ∙ same.weight

-- So with questions.
module _ {S : Type 0} (tells : Bool) (state : S → State) (rooms : RoomLaw tells state) (room : (s : S) (f : Session) → IsSession (state s) f → IsRoomOf (state s).books.geom f (room_of (state s))) (alone : AloneLaw)
    (reply : Reply) (old new : S) (f : Session) (session : IsSession (state old) f) where
  abbrev g : Geometry
  g = (state old).books.geom

  abbrev IsCalm : Type 0
  IsCalm = (wants_blocks reply ≡ false) × ((state new).books.running.weight ≡ (state old).books.running.weight)

  calm_stat : (path : List (List ℕ)) → Applies tells state (Stat path) reply old new → IsCalm
  calm_stat path applies =
      let x = rooms old new f (Stat path) reply session applies in
      let is = stat_answers g f x.0 (room_of (state old)) (room_of (state new)) reply path x.3 in
      let none = no_need (bitmap_blocks g) (shared_by g f.tree (room_of (state old))) (alone_by g f.tree (room_of (state old))) f.limit f.tree (Stat path) (refusal f.limit f.tree (Stat path)) refl in
      let fits = (room old f session).fits in (
        needs_none g f x.0 (room_of (state old)) (room_of (state new)) reply (Stat path) (tree_wants_none alone f (Stat path)) none (stat_is_free g f (room_of (state old)) path) fits is,
        weighs_none g f x.0 (room_of (state old)) (room_of (state new)) reply (Stat path) (tree_wants_none alone f (Stat path)) none (stat_is_free g f (room_of (state old)) path) fits is,
      )

  calm_list : (path : List (List ℕ)) → Applies tells state (ListNames path) reply old new → IsCalm
  calm_list path applies =
      let x = rooms old new f (ListNames path) reply session applies in
      let is = list_answers g f x.0 (room_of (state old)) (room_of (state new)) reply path x.3 in
      let none = no_need (bitmap_blocks g) (shared_by g f.tree (room_of (state old))) (alone_by g f.tree (room_of (state old))) f.limit f.tree (ListNames path) (refusal f.limit f.tree (ListNames path)) refl in
      let fits = (room old f session).fits in (
        needs_none g f x.0 (room_of (state old)) (room_of (state new)) reply (ListNames path) (tree_wants_none alone f (ListNames path)) none (list_is_free g f (room_of (state old)) path) fits is,
        weighs_none g f x.0 (room_of (state old)) (room_of (state new)) reply (ListNames path) (tree_wants_none alone f (ListNames path)) none (list_is_free g f (room_of (state old)) path) fits is,
      )

  calm_read : (path : List (List ℕ)) (offset count : ℕ) → Applies tells state (Read path offset count) reply old new → IsCalm
  calm_read path offset count applies =
      let x = rooms old new f (Read path offset count) reply session applies in
      let is = read_answers g f x.0 (room_of (state old)) (room_of (state new)) reply path offset count x.3 in
      let none = no_need (bitmap_blocks g) (shared_by g f.tree (room_of (state old))) (alone_by g f.tree (room_of (state old))) f.limit f.tree (Read path offset count) (refusal f.limit f.tree (Read path offset count)) refl in
      let fits = (room old f session).fits in (
        needs_none g f x.0 (room_of (state old)) (room_of (state new)) reply (Read path offset count) (tree_wants_none alone f (Read path offset count)) none (read_is_free g f (room_of (state old)) path offset count) fits is,
        weighs_none g f x.0 (room_of (state old)) (room_of (state new)) reply (Read path offset count) (tree_wants_none alone f (Read path offset count)) none (read_is_free g f (room_of (state old)) path offset count) fits is,
      )

  pub question_calm : (cmd : Cmd) → IsQuestion cmd → Applies tells state cmd reply old new → IsCalm
  question_calm cmd (inl (path, is)) applies = calm_stat path (subst (λ (c : Cmd). Applies tells state c reply old new) is applies)
  question_calm cmd (inr (inl (path, is))) applies = calm_list path (subst (λ (c : Cmd). Applies tells state c reply old new) is applies)
  question_calm cmd (inr (inr (path, offset, count, is))) applies = calm_read path offset count (subst (λ (c : Cmd). Applies tells state c reply old new) is applies)

-- The causes.

-- blocks that stand for a tree are those of a session of it
pub session_for : (s : State) (t : Tree) → StandsIn s t → (f : Session) × (f.tree ≡ t) × IsSession s f
session_for s t stands = (
  record { tree = t; limit = bounds_of s.books.geom; points = s.books.point; changed = nat_lt 0 s.books.running.weight; durable = s.books.floor },
  refl,
  record { tree = stands; limit = refl; points = λ going. refl; changed = λ going. refl; durable = omega arith },
)

fits_by : (why : Refusal) → wants_blocks (replies.Refused why) ≡ false → is_too_big why ≡ false
fits_by why is = grind (arith, true≢false)

no_room : (why : Refusal) → is_of_disk why ≡ true → wants_blocks (replies.Refused why) ≡ false → is_of_room why ≡ true → ⊥
no_room why outside is wants = grind (arith, true≢false)

same_refusal : (a b : Refusal) → replies.Refused a ≡ replies.Refused b → a ≡ b
same_refusal a b e = cc

module _ {S : Type 0} (tells : Bool) (state : S → State) where
  -- of a question that wasn't answered as it was asked for
  pub question_cause : (cmd : Cmd) (reply : Reply) (old new : S) → WasAnswered tells state (λ c. c ≡ cmd) reply old new → AsksToOpen cmd → (IsTrue tells → IsOfDisk reply × (wants_blocks reply ≡ false)) → IsNotOpened tells state (refusal_by reply) old new
  question_cause cmd (replies.Refused why) old new was asks calm =
      let outside : IsTrue tells → is_of_disk why ≡ true = λ told. let d = (calm told).0 in ap is_of_disk (same_refusal why d.0 d.2) ∙ d.1 in
      record {
        cause = record {
          cause = inr (was_so tells state (λ c. c ≡ cmd) AsksToOpen (replies.Refused why) old new (λ c is. subst AsksToOpen (sym is) asks) was);
          late = λ told. (omega (arith, from_ten why (outside told)), to_seventeen why (outside told));
          fits = λ told. fits_by why (calm told).1;
        };
        room = λ told wants. absurd (no_room why (outside told) (calm told).1 wants);
      }
  question_cause cmd replies.Ok old new was asks calm = tt
  question_cause cmd (replies.Bytes bytes) old new was asks calm = tt
  question_cause cmd (replies.Stat stat) old new was asks calm = tt
  question_cause cmd (replies.Names names) old new was asks calm = tt
  question_cause cmd (replies.Synced point) old new was asks calm = tt
  question_cause cmd (replies.DurableAt point) old new was asks calm = tt
  question_cause cmd (replies.Known point) old new was asks calm = tt
  question_cause cmd replies.Bad old new was asks calm = tt

  -- of want of memory
  pub open_lacking : (old new : S) → HasAsked tells state (λ c. ⊥) old new → IsNotOpened tells state (FsRefused because.NoMemory) old new
  open_lacking old new asked = record {
    cause = record { cause = inl (refl, λ told. asks_only tells state AsksToOpen old new (asked told)); late = λ told. (omega arith, omega arith); fits = λ told. refl };
    room = λ told wants. absurd (true≢false (sym wants));
  }

  module _ (both : (old mid new : S) → Advances (state old) (state mid) → Advances (state mid) (state new) → Advances (state old) (state new))
      (now : IsTrue tells → (s : S) → Advances (state s) (state s)) where
    -- behind questions
    pub open_later : (why : OpenRefusal) (old mid new : S) → (IsTrue tells → AsksOnly tells state old mid) → IsNotOpened tells state why mid new → IsNotOpened tells state why old new
    open_later BadLog old mid new asks cause = tt
    open_later (FsRefused why) old mid new asks c = record {
      cause = record {
        cause = ⊎_elim (λ none. inl (none.0, λ told. asks_later tells state AsksToOpen old mid new (before AsksToOpen told) (none.1 told)))
            (λ w. inr (was_later tells state both now AsksToOpen (replies.Refused why) old mid new time (before AsksToOpen) w)) c.cause.cause;
        late = c.cause.late;
        fits = c.cause.fits;
      };
      room = λ told wants.
          let m = c.room told wants in record {
            asked = was_later tells state both now (λ cmd. cmd ≡ Mkdir log_path) (replies.Refused why) old mid new time (before (λ cmd. cmd ≡ Mkdir log_path)) m.asked;
            free = λ t stands.
                let s = session_for (state old) t stands in
                m.free t (subst (StandsIn (state mid)) s.1 ((asks told).keeps.session s.0 s.2).tree);
          };
    }
      where
        time : IsTrue tells → Advances (state old) (state mid)
        time told = (asks told).keeps.time.advances

        before : (cmds : Cmd → Type 0) → HasAsked tells state cmds old mid
        before cmds told = asks_only tells state cmds old mid (asks told).way

-- The making of `/log`.
module _ {S : Type 0} (tells : Bool) (state : S → State) (path : List (List ℕ)) (reply : Reply) (old new : S) (is_log : path ≡ log_path) (was : WasAnswered tells state (λ c. c ≡ Mkdir path) reply old new) where
  -- the tree refuses it so, or the disk, and it fits
  abbrev IsMkdirRefusal : Refusal → Type 0
  IsMkdirRefusal why = IsOfLog why × (is_too_big why ≡ false)

  pub mkdir_cause : (why : Refusal) → reply ≡ replies.Refused why → (IsTrue tells → IsMkdirRefusal why) → (IsTrue tells → (t : Tree) → StandsIn (state old) t → get t.names log_path ≡ None)
      → IsNotOpened tells state (FsRefused why) old new
  mkdir_cause why is refusal free =
      let asked : WasAnswered tells state (λ c. c ≡ Mkdir log_path) (replies.Refused why) old new =
      subst (λ (r : Reply). WasAnswered tells state (λ c. c ≡ Mkdir log_path) r old new) is
      (was_so tells state (λ c. c ≡ Mkdir path) (λ c. c ≡ Mkdir log_path) reply old new (λ c e. e ∙ ap Mkdir is_log) was) in
      record {
        cause = record {
          cause = inr (was_so tells state (λ c. c ≡ Mkdir log_path) AsksToOpen (replies.Refused why) old new (λ c e. inr (inl e)) asked);
          late = λ told. (refusal told).0;
          fits = λ told. (refusal told).1;
        };
        room = λ told wants. record { asked = asked; free = free told };
      }

  -- and so whatever it is answered
  pub mkdir_not_opened : (IsTrue tells → (why : Refusal) → reply ≡ replies.Refused why → IsMkdirRefusal why) → (IsTrue tells → (t : Tree) → StandsIn (state old) t → get t.names log_path ≡ None)
      → IsNotOpened tells state (refusal_by reply) old new
  mkdir_not_opened refusal free = by reply refl
    where
      by : (r : Reply) → reply ≡ r → IsNotOpened tells state (refusal_by r) old new
      by (replies.Refused why) is = mkdir_cause why is (λ told. refusal told why is) free
      by replies.Ok is = tt
      by (replies.Bytes bytes) is = tt
      by (replies.Stat stat) is = tt
      by (replies.Names names) is = tt
      by (replies.Synced point) is = tt
      by (replies.DurableAt point) is = tt
      by (replies.Known point) is = tt
      by replies.Bad is = tt

known_not_refused : (point : ℕ) (why : Refusal) → replies.Known point ≡ replies.Refused why → ⊥
known_not_refused point why e = cc

done_not_refused : (why : Refusal) → replies.Ok ≡ replies.Refused why → ⊥
done_not_refused why e = cc

-- The tree refuses it where each number is used.
pub mkdir_refusal : ((limit : ℕ) (t : Tree) → IsSound limit t → get t.names log_path ≡ None → HasSegments t [])
    → ((old new : Session) (reply : Reply) → get old.tree.names log_path ≡ None → IsAsked [] old (Mkdir log_path) new reply → LacksNode old new reply ⊎ Leaves [] new reply)
    → (f next : Session) (path : List (List ℕ)) (reply : Reply) → path ≡ log_path → IsSound f.limit.nodes f.tree → get f.tree.names log_path ≡ None → Answers is_of_disk f (Mkdir path) reply next → is_past_room reply ≡ false
    → (why : Refusal) → reply ≡ replies.Refused why → IsOfLog why × (is_too_big why ≡ false)
mkdir_refusal before makes f next path reply is_log sound free answers fits why is = (late answers, sym (ap is_past_room is) ∙ fits)
  where
    late : Answers is_of_disk f (Mkdir path) reply next → IsOfLog why
    late (inl steps) = ⊎_elim
        (λ lacks. subst IsOfLog (same_refusal because.NoNode why (sym lacks.refused ∙ is)) (omega arith, omega arith))
        (λ leaves. absurd (done_not_refused why (sym leaves.done ∙ is)))
        (makes f next reply free (record { sound = sound; had = before f.limit.nodes f.tree sound free; answered = subst (λ (p : List (List ℕ)). step f (Mkdir p) ≡ (next, reply)) is_log steps }))
    late (inr (inl refused)) = subst IsOfLog (same_refusal refused.0 why (sym refused.2 ∙ is)) (omega (arith, from_ten refused.0 refused.1), to_seventeen refused.0 refused.1)
    late (inr (inr known)) = absurd (known_not_refused known.1.point why (sym known.1.is ∙ is))

-- Where nothing is weighed, it fits.
module _ {S : Type 0} (tells : Bool) (state : S → State) (rooms : RoomLaw tells state) (alone : AloneLaw)
    (path : List (List ℕ)) (reply : Reply) (old new : S) (limits : IsGeometry (state old).books.geom) (f : Session) (session : IsSession (state old) f) where
  pub mkdir_fits : Applies tells state (Mkdir path) reply old new → (state old).books.running.weight ≡ 0 → is_past_room reply ≡ false
  mkdir_fits applies empty =
      let g = (state old).books.geom in
      let x = rooms old new f (Mkdir path) reply session applies in
      fits_now g f x.0 (room_of (state old)) (room_of (state new)) reply (Mkdir path) (fits_by_itself alone f (Mkdir path)) (omega (arith, empty, mkdir_is_cheap g limits f (room_of (state old)) path))
      (mkdir_answers g f x.0 (room_of (state old)) (room_of (state new)) reply path x.3)

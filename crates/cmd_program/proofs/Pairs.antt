-- What is left under the two names behind a run on both that ended as it should, and under the other name behind a copy.
use Rattle.std.proofs.Common.{◌≡◌, ◌≢◌, ℕ, ◌<◌, Bool, true, false, IsTrue, List, [], ◌∷◌, length, map, Option, None, Some, Result, Ok, Err, OnOk, inl, inr, refl, sym, ap, ap₂, ◌∙◌, subst}
use Rattle.std.specs.Io.KnownBytes.{Appends}
use Rattle.crash_stands.specs.Bounds.{bounds_of}
use Rattle.lang_tree.specs.Tree.{Bounds}
use Rattle.base_types.specs.Seal.{blocks_of}
use Rattle.disk_contract.specs.declared.bay.BayFault.{BayFault}
use Rattle.disk_contract.specs.declared.bay.Mark.{Mark}
use Rattle.disk_contract.specs.Bay.{BayState, BeginsWith, IsKeptOf, Kept, TakesBack}
use Rattle.disk_contract.specs.Disk.{State}
use Rattle.lang_tree.specs.declared.command.Cmd.{Cmd}
use Rattle.lang_tree.specs.declared.command.Reply.{Reply}
use Rattle.cmd_image.specs.declared.ending.Ending.{Ending}
use Rattle.cmd_image.specs.declared.ending.Ending.TheVariants as script
use Rattle.cmd_image.specs.declared.ending.RunRefusal.{RunRefusal}
use Rattle.cmd_image.specs.declared.ending.RunRefusal.TheVariants as run
use Rattle.cmd_image.specs.declared.make_refusal.MakeRefusal.{MakeRefusal}
use Rattle.cmd_image.specs.declared.make_refusal.MakeRefusal.TheVariants as make
use Rattle.cmd_image.specs.Refusals.{run_refusal_of_bay}
use Rattle.cmd_image.specs.Runs.{ComesOfDisk, IsRun, MarksGo, RunsDisk, Streams, reply_lines}
use Rattle.cmd_mirror.specs.declared.refusal.MirroredRefusal.{MirroredRefusal}
use Rattle.cmd_mirror.specs.declared.refusal.MirroredRefusal.TheVariants as mirrored
use Rattle.cmd_mirror.specs.Copies.{HaveOneImage}
use Rattle.cmd_mirror.specs.Mirrored.{ComesOfBoth, RunsBoth, marked_answer_of, mirrored_answer_of}
use Rattle.cmd_mirror.specs.Sides.{Course, GoesBack, own_moment}
use Rattle.cmd_program.specs.Copying.{CopiesTo}
use Rattle.cmd_program.specs.Endings.{EndsBehind, Met, damaged_line, disk_line, long_line, source_line, spent_line, unlike_line}
use Rattle.cmd_program.specs.Making.{EndsMaking}
use Rattle.cmd_program.specs.Mirroring.{EndsMirrored, RunsMirroredTo}
use Rattle.cmd_program.specs.Pairs.{LeavesByMarks, LeavesPair, LeavesPoints}
use Rattle.cmd_program.specs.Scripting.{streams}
use Rattle.cmd_program.specs.declared.status.Status.{Status}
use Rattle.cmd_program.specs.declared.status.Status.TheVariants.{Done, NoMemory, DiskFault, Damaged, SourceFault, SinkFault, Spent, LongInput, Unlike}

-- The answer behind which a run ends as it should.

pub not_sink : Done ≡ SinkFault → ⊥
not_sink is = cc

pub not_short : Done ≡ NoMemory → ⊥
not_short is = cc

-- a run that ended as it should didn't end behind the line of another status
pub not_behind : (X : Status) (line : List ℕ) (told out : Option (List ℕ)) → (Done ≡ X → ⊥) → EndsBehind X line Done told out → ⊥
not_behind X line told out other (inl t) = other t.0
not_behind X line told out other (inr t) = not_sink t.0

-- an answer that is the end of the input
abbrev IsEnd : Result Ending MirroredRefusal → Option (List ℕ) → Option (List ℕ) → Type 0
IsEnd answer told out = (answer ≡ Ok script.End) × (out ≡ told)

ended_well : (answer : Result Ending MirroredRefusal) (told out : Option (List ℕ)) → EndsMirrored answer Done told out → IsEnd answer told out
ended_well (Ok script.End) told out e = (refl, e.1)
ended_well (Ok script.SourceFault) told out e = absurd (not_behind SourceFault source_line told out (λ (is : Done ≡ SourceFault). cc) e)
ended_well (Ok script.LongInput) told out e = absurd (not_behind LongInput long_line told out (λ (is : Done ≡ LongInput). cc) e)
ended_well (Err mirrored.Unlike) told out e = absurd (not_behind Unlike unlike_line told out (λ (is : Done ≡ Unlike). cc) e)
ended_well (Err (mirrored.Run run.Fault)) told out e = absurd (not_behind DiskFault disk_line told out (λ (is : Done ≡ DiskFault). cc) e)
ended_well (Err (mirrored.Run (run.Damaged damage))) told out e = absurd (not_behind (Damaged damage) damaged_line told out (λ (is : Done ≡ Damaged damage). cc) e)
ended_well (Err (mirrored.Run run.Spent)) told out e = absurd (not_behind Spent spent_line told out (λ (is : Done ≡ Spent). cc) e)
ended_well (Err (mirrored.Run run.SinkFault)) told out e = absurd (not_sink e.0)
ended_well (Err (mirrored.Run run.NoMemory)) told out e = absurd (not_short e.0)

-- the answer of a run on two images that came to this end
abbrev ended : Ending → Result Ending MirroredRefusal
ended ending = Ok ending

no_refusal : (e : Ending) (why : MirroredRefusal) → ended e ≡ Err why → ⊥
no_refusal e why is = cc

not_broken : ended script.End ≡ Ok script.SourceFault → ⊥
not_broken is = cc

not_long : ended script.End ≡ Ok script.LongInput → ⊥
not_long is = cc

-- the returns and the answer before them, where the end of the input is answered behind both
record Returned (answer : Result Ending MirroredRefusal) (back other_back : Result (Unit {0}) BayFault) : Type 0 where
  first : Unit {0}
  second : Unit {0}
  is_first : back ≡ Ok first
  is_second : other_back ≡ Ok second
  before : Ok script.End ≡ answer

returned : (answer : Result Ending MirroredRefusal) (back other_back : Result (Unit {0}) BayFault) → Ok script.End ≡ mirrored_answer_of answer back other_back → Returned answer back other_back
returned (Ok script.End) (Ok x) (Ok y) is = record { first = x; second = y; is_first = refl; is_second = refl; before = refl }
returned (Ok script.End) (Ok x) (Err fault) is = absurd (no_refusal script.End (mirrored.Run (run_refusal_of_bay fault)) is)
returned (Ok script.End) (Err fault) other_back is = absurd (no_refusal script.End (mirrored.Run (run_refusal_of_bay fault)) is)
returned (Ok script.SourceFault) back other_back is = absurd (not_broken is)
returned (Ok script.LongInput) back other_back is = absurd (not_long is)
returned (Err why) back other_back is = absurd (no_refusal script.End why is)

-- the run over the mirror came to the end too, and its marks are known
marked : (known : Bool) (answer : Result Ending RunRefusal) → Ok script.End ≡ marked_answer_of known answer → (known ≡ true) × (answer ≡ Ok script.End)
marked true (Ok script.End) is = (refl, refl)
marked true (Ok script.SourceFault) is = absurd (not_broken is)
marked true (Ok script.LongInput) is = absurd (not_long is)
marked true (Err why) is = absurd (no_refusal script.End (mirrored.Run why) is)
marked false (Ok script.End) is = absurd (no_refusal script.End (mirrored.Run run.NoMemory) is)
marked false (Ok script.SourceFault) is = absurd (not_broken is)
marked false (Ok script.LongInput) is = absurd (not_long is)
marked false (Err why) is = absurd (no_refusal script.End (mirrored.Run why) is)

-- One of the two disks.

-- each mark is of the moment of its reply
along : (f : ℕ → ℕ) (before now : Mark) (replies : List Reply) (moments : List ℕ) (marks : List Mark) → MarksGo before replies moments marks now → map (λ (m : Mark). f m.moment) marks ≡ map f moments
along f before now [] [] [] go = refl
along f before now (r ∷ replies) (k ∷ moments) (mark ∷ marks) go = ap₂ (λ (x : ℕ) (xs : List ℕ). x ∷ xs) (ap f go.0.moment) (along f mark now replies moments marks go.1)
along f before now other moments marks go = absurd go

-- crashes of a disk that went back from a mirror leave sync points by its own marks
by_marks : (c : Course) (known : Bool) (first mirror disk : State) (marks own : List Mark) (cmds : List Cmd) (replies : List Reply) → known ≡ true → GoesBack known c mirror disk marks own
    → (r : RunsDisk first mirror marks cmds replies) → mirror.blocks ≡ first.blocks → LeavesByMarks disk.blocks (bounds_of r.geom) cmds replies disk.base disk.log own
by_marks c known first mirror disk marks own cmds replies is g r same = record {
  mounted = own_moment c (length disk.log) r.mounted;
  moments = map (own_moment c (length disk.log)) r.moments;
  told = g.told is ∙ ap (map (λ (m : Mark). own_moment c (length disk.log) m.moment)) r.marked.is
      ∙ ap (λ (ks : List ℕ). own_moment c (length disk.log) r.mounted ∷ ks) (along (own_moment c (length disk.log)) _ _ _ _ _ r.marked.go);
  consistent = g.points.served first cmds replies r same;
}

-- The names.

none : {A : Type 0} (x : A) → None ≡ Some x → ⊥
none x is = cc

-- what was under a name with which a disk began
began_with : (o : Option Kept) (d : State) → BeginsWith o d → (old : Kept) × (o ≡ Some old) × (d.base ≡ blocks_of old.image)
began_with None d b = absurd b
began_with (Some old) d b = (old, refl, b.base)

-- what is under a name behind a return that was answered so
pub taken_back : (disk : State) (marks : List Mark) (before after : Option Kept) (old : Kept) → before ≡ Some old → TakesBack disk marks before after → (new : Kept) × (after ≡ Some new) × IsKeptOf disk marks new
taken_back disk marks None after old is t = absurd (none old is)
taken_back disk marks (Some before) None old is t = absurd t
taken_back disk marks (Some before) (Some new) old is t = (new, refl, t)

-- a disk that is kept leaves sync points as it did when it went back
kept_points : (n : ℕ) (limit : Bounds) (cmds : List Cmd) (replies : List Reply) (disk : State) (own : List Mark) (new : Kept) → IsKeptOf disk own new → disk.blocks ≡ n → LeavesByMarks disk.blocks limit cmds replies disk.base disk.log own
    → LeavesByMarks n limit cmds replies new.base new.log new.marks
kept_points n limit cmds replies disk own new k size l =
    subst (λ base. LeavesByMarks n limit cmds replies base new.log new.marks) (sym k.base)
    (subst (λ log. LeavesByMarks n limit cmds replies disk.base log new.marks) (sym k.log)
    (subst (λ marks. LeavesByMarks n limit cmds replies disk.base disk.log marks) (sym k.marks)
    (subst (λ (blocks : ℕ). LeavesByMarks blocks limit cmds replies disk.base disk.log own) size l)))

-- what must hold of an answer that is Ok
pub on_ok : (back : Result (Unit {0}) BayFault) (x : Unit {0}) (P : Type 0) → back ≡ Ok x → OnOk back P → P
on_ok back x P is on = subst (λ (b : Result (Unit {0}) BayFault). OnOk b P) is on

-- what is under a name after a disk went back that began with what was there
left_under : (n : ℕ) (limit : Bounds) (cmds : List Cmd) (replies : List Reply) (disk : State) (own : List Mark) (old new : Kept) (before now : Option Kept) → before ≡ Some old → now ≡ Some new → IsKeptOf disk own new → disk.blocks ≡ n
    → ((b : ℕ) → b < n → disk.base b ≡ blocks_of old.image b) → LeavesByMarks disk.blocks limit cmds replies disk.base disk.log own → LeavesPoints n limit cmds replies before now
left_under n limit cmds replies disk own old new before now is_old is_new k size began l = record {
  old = old;
  is_old = is_old;
  new = new;
  is_new = is_new;
  began = λ b there. ap (λ (f : ℕ → List ℕ). f b) k.base ∙ began b there;
  leaves = kept_points n limit cmds replies disk own new k size l;
}

module _ (tells : Bool) (image other : List ℕ) (old new : BayState) (t : IsTrue tells) (apart : image ≢ other) (before after : Streams) (b : RunsBoth tells image other (Ok script.End) old new before after)
    (r : Returned b.answer b.closes.back b.closes.other_back) (known : b.runs.goes.known ≡ true) (ran : IsRun tells b.runs.mirror b.runs.mirror_last b.runs.marks (Ok script.End) before after) where
  runs : RunsDisk b.runs.mirror b.runs.mirror_last b.runs.marks ran.cmds ran.replies
  runs = ran.runs t

  base : b.runs.mirror_last.base ≡ b.first.base
  base = runs.base ∙ b.runs.base t

  first_left : LeavesPoints b.runs.mirror_last.blocks (bounds_of runs.geom) ran.cmds ran.replies (old.kept image) (new.kept image)
  first_left =
      let o = began_with (old.kept image) b.first (b.opens.opens_first.disk t) in
      let opened : b.opened.kept image ≡ Some o.0 = b.opens.opens_second.kept t image ∙ b.opens.opens_first.kept t image ∙ o.1 in
      let k = taken_back b.first_last b.first_marks (b.opened.kept image) (b.closes.between.kept image) o.0 opened (on_ok b.closes.back r.first _ r.is_first (b.closes.closes_first.kept t)) in
      left_under b.runs.mirror_last.blocks (bounds_of runs.geom) ran.cmds ran.replies b.first_last b.first_marks o.0 k.0 (old.kept image) (new.kept image) o.1 (b.closes.closes_second.others t image apart ∙ k.1) k.2 b.runs.goes.blocks.0
      (λ i there. (b.runs.goes.goes_first t).side.leaves.alike i there ∙ ap (λ (f : ℕ → List ℕ). f i) (base ∙ o.2))
      (by_marks b.runs.goes.first_course b.runs.goes.known b.runs.mirror b.runs.mirror_last b.first_last b.runs.marks b.first_marks ran.cmds ran.replies known (b.runs.goes.goes_first t) runs ran.blocks)

  second_left : LeavesPoints b.runs.mirror_last.blocks (bounds_of runs.geom) ran.cmds ran.replies (old.kept other) (new.kept other)
  second_left =
      let o = began_with (b.opens.between.kept other) b.second (b.opens.opens_second.disk t) in
      let opened : b.closes.between.kept other ≡ Some o.0 = b.closes.closes_first.others t other (λ is. apart (sym is)) ∙ b.opens.opens_second.kept t other ∙ o.1 in
      let k = taken_back b.second_last b.second_marks (b.closes.between.kept other) (new.kept other) o.0 opened (on_ok b.closes.other_back r.second _ r.is_second (b.closes.closes_second.kept t)) in
      left_under b.runs.mirror_last.blocks (bounds_of runs.geom) ran.cmds ran.replies b.second_last b.second_marks o.0 k.0 (old.kept other) (new.kept other) (sym (b.opens.opens_first.kept t other) ∙ o.1) k.1 k.2 b.runs.goes.blocks.1
      (λ i there. (b.runs.goes.goes_second t).side.leaves.alike i there ∙ ap (λ (f : ℕ → List ℕ). f i) base
      ∙ sym (b.alike.same t i (subst (λ (n : ℕ). i < n) (ran.blocks ∙ b.runs.blocks) there)) ∙ ap (λ (f : ℕ → List ℕ). f i) o.2)
      (by_marks b.runs.goes.second_course b.runs.goes.known b.runs.mirror b.runs.mirror_last b.second_last b.runs.marks b.second_marks ran.cmds ran.replies known (b.runs.goes.goes_second t) runs ran.blocks)

-- The laws.

-- both names behind a run over two disks
pair_of : (tells : Bool) (image other : List ℕ) (m : Met) (between : Option (List ℕ)) (sink_between : ℕ) → IsTrue tells → image ≢ other → m.taken_now ≡ between
    → RunsBoth tells image other (Ok script.End) m.bay m.bay_now (streams m.left m.source m.taken m.sink) (streams m.left_now m.source_now between sink_between) → LeavesPair image other m
unfolding runs
pair_of tells image other m between sink_between t apart same b =
    let before : Streams = streams m.left m.source m.taken m.sink in
    let after : Streams = streams m.left_now m.source_now between sink_between in
    let r = returned b.answer b.closes.back b.closes.other_back b.answered in
    let known = marked b.runs.goes.known b.runs.ended (r.before ∙ b.runs.goes.answered) in
    let ran : IsRun tells b.runs.mirror b.runs.mirror_last b.runs.marks (Ok script.End) before after =
    subst (λ (a : Result Ending RunRefusal). ComesOfDisk tells b.runs.mirror b.runs.mirror_last b.runs.marks a before after) known.1 b.runs.comes in
    let limit = bounds_of (ran.runs t).geom in
    record {
      seen = ran.reads.0;
      read = ran.reads.1;
      all = ran.reads.2;
      replies = ran.replies;
      wrote = subst (λ (x : Option (List ℕ)). Appends m.taken x (reply_lines ran.replies)) (sym same) ran.writes;
      n = b.runs.mirror_last.blocks;
      limit = limit;
      first = subst (λ (cmds : List Cmd). LeavesPoints b.runs.mirror_last.blocks limit cmds ran.replies (m.bay.kept image) (m.bay_now.kept image)) ran.reads.3
          (first_left tells image other m.bay m.bay_now t apart before after b r known.0 ran);
      second = subst (λ (cmds : List Cmd). LeavesPoints b.runs.mirror_last.blocks limit cmds ran.replies (m.bay.kept other) (m.bay_now.kept other)) ran.reads.3
          (second_left tells image other m.bay m.bay_now t apart before after b r known.0 ran);
    }

-- only a run over both disks has this answer
both_of : (tells : Bool) (image other : List ℕ) (old new : BayState) (before after : Streams) → ComesOfBoth tells image other (Ok script.End) old new before after → RunsBoth tells image other (Ok script.End) old new before after
both_of tells image other old new before after (inl none) = absurd (no_refusal script.End (mirrored.Run none.why) none.answered)
both_of tells image other old new before after (inr (inl one)) = absurd (no_refusal script.End (mirrored.Run (run_refusal_of_bay one.fault)) one.answered)
both_of tells image other old new before after (inr (inr (inl none))) = absurd (no_refusal script.End none.why none.answered)
both_of tells image other old new before after (inr (inr (inr both))) = both

pub left_pair : (tells : Bool) (image other : List ℕ) (m : Met) → IsTrue tells → image ≢ other → RunsMirroredTo tells image other Done m → LeavesPair image other m
left_pair tells image other m t apart r =
    let e = ended_well r.answer r.between m.taken_now r.ends in
    pair_of tells image other m r.between r.sink_between t apart e.1
    (both_of tells image other m.bay m.bay_now _ _ (subst (λ (a : Result Ending MirroredRefusal). ComesOfBoth tells image other a m.bay m.bay_now (streams m.left m.source m.taken m.sink) (streams m.left_now m.source_now r.between r.sink_between)) e.0 r.comes))

pub copied_whole : (tells : Bool) (image other : List ℕ) (m : Met) → IsTrue tells → CopiesTo tells image other Done m → HaveOneImage (m.bay.kept image) (m.bay_now.kept other)
copied_whole tells image other m t x = by x.answer x.ends (x.copied t)
  where
    by : (answer : Result (Unit {0}) MakeRefusal) → EndsMaking answer Done m.taken m.taken_now → OnOk answer (HaveOneImage (m.bay.kept image) (m.bay_now.kept other)) → HaveOneImage (m.bay.kept image) (m.bay_now.kept other)
    by (Ok y) e has = has
    by (Err make.Fault) e has = absurd (not_behind DiskFault disk_line m.taken m.taken_now (λ (is : Done ≡ DiskFault). cc) e)
    by (Err make.NoMemory) e has = absurd (not_short e.0)

-- The contents of the text are those that were served, whose honest crashes leave a point; and an image stands for one tree.
use Rattle.std.proofs.Common.{◌≡◌, ℕ, ◌≤◌, ◌++◌, List, length, nat_le, Option, None, Some, Result, Ok, Err, refl, sym, ap, ◌∙◌, subst}
use Rattle.std.proofs.Math.Logic.{∥∥₁_elim}
use Rattle.std.proofs.lemmas.Bool.{and_parts, leb-true}
use Rattle.base_types.specs.Seal.{Blocks, blocks_of}
use Rattle.layout_geometry.specs.Geometry.{Geometry}
use Rattle.layout_journal.specs.Formatted.{formatted}
use Rattle.disk_memory.specs.Choice.{ChoiceState}
use Rattle.crash_stands.specs.Bounds.{bounds_of}
use Rattle.crash_stands.specs.Stands.{StandsFor}
use Rattle.lang_tree.specs.Points.{Point}
use Rattle.lang_tree.specs.Step.{start}
use Rattle.lang_tree.specs.Tree.{Tree}
use Rattle.cmd_trace.specs.Contents.{Contents, AreLawful, text_of}
use Rattle.cmd_trace.specs.Line.{end_line}
use Rattle.cmd_session.specs.Crashes.{LeavesPoints, StandsForOne}
use Rattle.cmd_session.specs.Images.{StandsForNone}
use Rattle.cmd_replay.specs.declared.refusal.ReplayRefusal.{ReplayRefusal}
use Rattle.cmd_replay.specs.declared.refusal.ReplayRefusal.TheVariants.{Damaged}
use Rattle.cmd_replay.specs.Named.{AreAlike, kept_trees}
use Rattle.cmd_replay.specs.Newest.{IsNewest}
use Rattle.cmd_replay.specs.Points.{points_in, floor_at, top_at}
use Rattle.cmd_replay.specs.Replays.{Found, Answers, LeavesImage}
use Rattle.cmd_record.specs.Traces.{Serves, IsTrace, contents}
use Rattle.cmd_program.specs.Recordings.{IsHonestCrash, IsPlaced}
use Rattle.cmd_program.proofs.laws.a_crash_of_a_recording_is_found.Goals as goal

-- lawful contents with one text are the same
abbrev OneContents : Type 0
OneContents = (c d : Contents) → AreLawful c → AreLawful d → text_of c ≡ text_of d → c ≡ d

-- an image stands for one tree at most
abbrev OneTree : Type 0
OneTree = (n : ℕ) (img : Blocks) (t u : Tree) → StandsFor n img t → StandsFor n img u → t ≡ u

-- what each honest crash of a trace leaves stands for one of its points
abbrev LeavesPoint : Contents → Type 0
LeavesPoint c = LeavesPoints c.geometry.n (formatted c.geometry) (start (bounds_of c.geometry)) c.log c.mounted c.cmds c.replies c.marks

-- this image stands for one of the points that a crash at the moment may leave
abbrev HasPoint : Contents → ℕ → List (List ℕ) → Type 0
HasPoint c moment image = ∥ StandsForOne (length image) (blocks_of image) (points_in c) (floor_at moment c) (top_at moment c) ∥₁

-- the crashes of a trace that a recording wrote leave points, whoever read its contents
leaves : OneContents → (g : Geometry) (seen text : List ℕ) → IsTrace (Serves g) seen text → (c : Contents) → AreLawful c → text_of c ≡ text → LeavesPoint c
leaves one g seen text t c lawful is =
    let served = contents g _ t.body t.served in
    let same = one served c t.served.lawful lawful (ap (λ l. l ++ end_line) (sym t.served.is) ∙ sym t.is ∙ sym is) in
    subst LeavesPoint same (t.served.consistent.points (start (bounds_of g)).tree t.served.begins)

-- and so does the image of a choice
stands : (c : Contents) → LeavesPoint c → (moment : ℕ) (choice : ChoiceState) → IsHonestCrash c moment choice → (image : List (List ℕ)) → LeavesImage c.geometry c.log moment choice image → HasPoint c moment image
stands c points moment choice honest image left =
    subst (λ (n : ℕ). ∥ StandsForOne n (blocks_of image) (points_in c) (floor_at moment c) (top_at moment c) ∥₁) (sym left.is.count) (points.each moment (blocks_of image) within (honest image left))
  where
    within : moment ≤ length c.log
    within = leb-true moment (length c.log) (and_parts (nat_le moment (length c.log)) _ left.may).0

-- an image that stands for a point stands for some tree
undamaged : (n : ℕ) (img : Blocks) (points : List Point) (low high : ℕ) → ∥ StandsForOne n img points low high ∥₁ → StandsForNone n img → ⊥
undamaged n img points low high some none = ∥∥₁_elim some (λ x y. absurd x) (λ (s : StandsForOne n img points low high). none s.point.tree s.stands)

-- one tree is like itself
same_alike : {t u : Tree} → t ≡ u → AreAlike t u
same_alike same = record { names = ap (λ (x : Tree). x.names) same; nodes = ap (λ (x : Tree). x.nodes) same; snapshots = ap kept_trees same }

-- where it stands for this tree, the newest point with it is there
pointed : OneTree → (n : ℕ) (img : Blocks) (points : List Point) (low high : ℕ) (tree : Tree) → ∥ StandsForOne n img points low high ∥₁ → StandsFor n img tree
    → (point : Option ℕ) → IsNewest (λ t. AreAlike t tree) points low high point → (p : ℕ) × (point ≡ Some p)
pointed one n img points low high tree some its (Some p) newest = (p, refl)
pointed one n img points low high tree some its None newest = absurd (∥∥₁_elim some (λ x y. absurd x) (λ (s : StandsForOne n img points low high).
    newest s.number s.from s.upto (record { point = s.point; is = s.is; such = same_alike (one n img s.point.tree tree s.stands its) })))

placed : OneTree → (c : Contents) (moment : ℕ) (choice : ChoiceState) → ((image : List (List ℕ)) → LeavesImage c.geometry c.log moment choice image → HasPoint c moment image)
    → (answer : Result Found ReplayRefusal) → Answers c moment choice answer → IsPlaced answer
placed one c moment choice some (Ok found) told =
    pointed one (length told.0) (blocks_of told.0) (points_in c) (floor_at moment c) (top_at moment c) told.2.tree (some told.0 told.1) told.2.stands.stands found.point told.2.newest
placed one c moment choice some (Err (Damaged damage)) told =
    undamaged (length told.0) (blocks_of told.0) (points_in c) (floor_at moment c) (top_at moment c) (some told.0 told.1) told.2.1
placed one c moment choice some other told = tt

pub returns : goal.returns
returns c = λ g seen text t contents is same moment choice honest answer told.
    placed c.an_image_stands_for_one_tree.ensures.image contents moment choice
    (stands contents (leaves c.equal_traces_have_equal_contents.ensures.whole g seen text t contents is.lawful same) moment choice honest) answer told

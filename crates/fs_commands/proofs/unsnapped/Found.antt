-- Whether a snapshot goes, and that there is room for it.
use Rattle.std.proofs.Common.{◌≡◌, ◌≢◌, ◌⊎◌, inl, ℕ, ◌+◌, ◌<◌, ◌≤◌, ◌==◌, ◌||◌, ◌&&◌, not, Bool, false, IsTrue, List, [], ◌∷◌, length, min, All, is_none, Option, None, Some, Result, Ok, Err, OnOk, OnErr, refl, sym, ap, ap₂, subst, ◌∙◌, arith}
use Rattle.std.specs.Cmp.{unsigned_Decides}
use Rattle.std.specs.List.{list_any}
use Rattle.std.proofs.lemmas.Map.Made.{IsDistinct-from_AllPairs}
use Rattle.std.proofs.lemmas.Map.Steps.{length-le_from_distinct_below}
use Rattle.std.proofs.lemmas.List.Kept.{AllPairs-filter}
use Rattle.layout_geometry.specs.Geometry.{IsGeometry, bitmap_blocks}
use Rattle.lang_tree.specs.declared.command.Cmd.TheVariants.{Unsnap}
use Rattle.lang_tree.specs.declared.command.Refusal.{Refusal}
use Rattle.lang_tree.specs.declared.command.Refusal.TheVariants.{NoSnap}
use Rattle.lang_tree.specs.declared.command.Reply.{Reply}
use Rattle.lang_tree.specs.Conditions.{refusal, when}
use Rattle.lang_tree.specs.Figures.{Figures}
use Rattle.lang_tree.specs.Sharing.{unsnapping}
use Rattle.lang_tree.specs.Step.{Session}
use Rattle.lang_tree.specs.Tree.{Kept}
use Rattle.crash_stands.specs.Stands.{AreSound}
use Rattle.engine_blocks.specs.Puts.{IsData}
use Rattle.engine_blocks.specs.Running.{has}
use Rattle.engine_blocks.specs.State.{Bookkeeping, State}
use Rattle.fs_files.specs.Effects.{LooksOnly}
use Rattle.fs_files.specs.Shared.{keepers}
use Rattle.fs_dirs.specs.Directories.{IsNumber}
use Rattle.fs_snapshots.specs.Known.{snapshot_number}
use Rattle.fs_session.specs.Commands.{IsRefusedFor, SpendsNothing, places_of}
use Rattle.fs_session.specs.Sessions.{IsSession}
use Rattle.fs_session.specs.Snapshots.{live_files}
use Rattle.fs_session.specs.Space.{LacksRoom}
use Rattle.fs_session.specs.Staying.{freed_alike}
use Rattle.fs_commands.specs.declared.snapping.Gone.{Gone}
use Rattle.fs_commands.specs.declared.snapping.GoneLists.{GoneLists}
use Rattle.fs_commands.specs.Snapping.{GoesWith, IsSnapshot, MayUnsnap, figures_to_unsnap}
use Rattle.fs_commands.proofs.snapped.Answers.{NamedLaw, none_named}
use Rattle.fs_commands.proofs.unsnapped.Known.{list_once}
use Rattle.fs_commands.proofs.unsnapped.Once.{IsOnce}
use Rattle.fs_commands.proofs.unsnapped.Planned.{UnsnapIs, goes_still}
use Rattle.fs_commands.proofs.unsnapped.Taken.{EachLaw, all_has}

-- no snapshot has the name
pub unsnap_refused : (s : State) (f : Session) (name : List ℕ) → IsSession s f → NamedLaw → snapshot_number s.books.geom s.map name ≡ None → refusal f.limit f.tree (Unsnap name) ≡ Some NoSnap
unsnap_refused s f name h law none = ap (λ (o : Option Kept). when (is_none o) NoSnap) (none_named s.books.geom s.map f.tree name h.tree law none)

any_has : (xs : List ℕ) (q : ℕ) → list_any (λ x. q == x) xs ≡ has xs q
any_has [] q = refl
any_has (x ∷ xs) q = ap (λ t. (q == x) || t) (any_has xs q)

-- different numbers below n are at most n
pub few_below : (xs : List ℕ) (n : ℕ) → IsOnce xs → All (λ b. b < n) xs → length xs ≤ n
few_below xs n once below = length-le_from_distinct_below xs n (IsDistinct-from_AllPairs unsigned_Decides xs once) (λ q is. all_has (λ b. b < n) xs q below (sym (any_has xs q) ∙ is))

-- The blocks that nothing else has are no more than a disk has.
pub alone_few : (s : State) (counts : List ℕ) (number : ℕ) (lists : GoneLists) → GoesWith s counts number lists → AreSound s.books.geom s.map → IsSnapshot s.books.geom s.map number → EachLaw → IsGeometry s.books.geom → All (IsData s.books.geom) lists.alone.items → length lists.alone.items ≤ 1048576
alone_few s counts number lists goes sound (node, used, kind) each limits inside =
    let once = list_once s.books.geom s.map number node used kind lists.kept.items goes.kept each sound in
    let alone_once : IsOnce lists.alone.items = subst IsOnce (sym goes.alone) (AllPairs-filter (λ a b. a ≢ b) (λ b. (keepers counts b == 1) && not (has (live_files s.books.geom s.map) b)) lists.kept.items once) in
    let few = few_below lists.alone.items s.books.geom.n alone_once (λ i d low. (inside i d low).below) in
    omega (arith, few, limits.most_blocks)

-- So these are the figures.
pub figures_so : (s : State) (bitmap own many number : ℕ) (alone : List ℕ) → bitmap ≡ bitmap_blocks s.books.geom → own ≡ length (places_of s number) → many ≡ min (length alone) 1048576 → length alone ≤ 1048576
    → unsnapping bitmap own many ≡ figures_to_unsnap s number (length alone)
figures_so s bitmap own many number alone is its most few =
    ap (λ b. unsnapping b own many) is ∙ ap₂ (unsnapping (bitmap_blocks s.books.geom)) its same
  where
    same : many ≡ length alone
    same = omega (arith, most, few)

-- What may go before reads may go behind them.
pub goes_behind : (tells : Bool) (s t : State) → LooksOnly tells false s t → (name counts : List ℕ) (gone : Gone) → MayUnsnap tells s name counts gone → MayUnsnap tells t name counts gone
goes_behind tells s t looks name counts gone h = record {
  number = subst (λ (b : Bookkeeping). IsNumber b.geom.i gone.number) (sym looks.books) h.number;
  «data» = subst (λ (b : Bookkeeping). All (IsData b.geom) gone.alone.items) (sym looks.books) h.«data»;
  weight = subst (λ (b : Bookkeeping). b.running.weight + gone.cost ≤ b.room) (sym looks.books) h.weight;
  named = λ told. (goes_still tells s t looks told name counts gone h).named told;
  kept = λ told. (goes_still tells s t looks told name counts gone h).kept told;
  alone = λ told. (goes_still tells s t looks told name counts gone h).alone told;
  cost = λ told. (goes_still tells s t looks told name counts gone h).cost told;
  room = λ told. (goes_still tells s t looks told name counts gone h).room told;
}

-- There is no room.
pub no_room : (s t : State) (name : List ℕ) (number many : ℕ) (f : Session) (n : Figures) (why : Refusal) → UnsnapIs s name number many f → n ≡ figures_to_unsnap s number many → t.books ≡ s.books → LacksRoom t.books n why → IsRefusedFor s t f (Unsnap name) why
no_room s t name number many f n why is are books lacks = inl (record {
  accepted = is.accepted;
  lacks = subst (λ (m : Figures). LacksRoom s.books m why) (are ∙ sym is.figures) (subst (λ (b : Bookkeeping). LacksRoom b n why) books lacks);
  rests = freed_alike s.books t.books books;
})

-- What is answered without a draft leaves the blocks.
pub answered_map : (tells : Bool) (s q t : State) (r : Result Reply Refusal) → IsTrue tells → q.map ≡ s.map → OnOk r (t.map ≡ q.map) → OnErr r (SpendsNothing tells s t) → t.map ≡ s.map
answered_map tells s q t (Ok reply) told same left spent = left ∙ same
answered_map tells s q t (Err why) told same left spent = spent.map told

pub refused_map : (tells : Bool) (s t : State) (r : Result Reply Refusal) → IsTrue tells → OnOk r ⊥ → OnErr r (SpendsNothing tells s t) → t.map ≡ s.map
refused_map tells s t (Ok reply) told left spent = absurd left
refused_map tells s t (Err why) told left spent = spent.map told

-- The blocks of files and directories among sound blocks: each is whole, and none is there twice.
use Rattle.std.proofs.Common.{◌≡◌, ◌≢◌, ◌⊎◌, inl, ℕ, ◌+◌, ◌<◌, ◌≤◌, ◌||◌, nat_lt, true, if◌then◌else◌, [], ◌++◌, length, get_or, All, Option, Some, None, refl, sym, ap, ◌∙◌, arith}
use Rattle.std.proofs.lemmas.Bool.{or_right, false≢true}
use Rattle.std.proofs.lemmas.Option.{slice_get-get_or}
use Rattle.base_types.specs.Runs.{run_places}
use Rattle.base_types.specs.Seal.{Blocks}
use Rattle.layout_geometry.specs.Geometry.{Geometry, data_start}
use Rattle.layout_bytes.specs.declared.node.Node.{Node}
use Rattle.layout_bytes.specs.declared.node.NodeKind.{NodeKind}
use Rattle.layout_bytes.specs.declared.node.NodeKind.TheVariants.{Free, Dir, File, Snapshot}
use Rattle.layout_bytes.specs.Bitmap.{is_set}
use Rattle.crash_stands.specs.Files.{used_node}
use Rattle.crash_stands.specs.Places.{is_copied}
use Rattle.crash_stands.specs.Stands.{AreSound, HasBlock}
use Rattle.crash_snapshots.specs.Places.{places_of_dir}
use Rattle.engine_blocks.specs.Puts.{IsData}
use Rattle.engine_blocks.specs.Running.{has}
use Rattle.fs_files.specs.Places.{has_place, place_of}
use Rattle.fs_snapshots.specs.Among.{node_among}
use Rattle.fs_snapshots.specs.Nodes.{live}
use Rattle.fs_commands.specs.Gathering.{live_dirs}
use Rattle.fs_commands.proofs.gathered.Lists.{dirs_are}

-- a node's blocks are of the data
abbrev pub DataLaw : Type 0
DataLaw = (g : Geometry) (m : Blocks) (k : ℕ) (node : Node) → used_node g m k ≡ Some node → All (IsData g) (run_places node.runs)

module _ (g : Geometry) (m : Blocks) (sound : AreSound g m) where
  -- a data block that a node has is whole
  pub block_whole : (k i b : ℕ) → HasBlock g m k i b → IsData g b → length (m b) ≡ 1024
  block_whole k i b has at = sound.whole b (live g m b (omega (arith, at.from)) at.below (or_right (nat_lt b (data_start g)) (is_set g m b) ((sound.marked b at.from at.below).1 (inl (k, i, has)))))

-- a block of a directory is one of its node
dir_has : (g : Geometry) (m : Blocks) (k b : ℕ) (o : Option Node) → used_node g m k ≡ o → has (places_of_dir o) b ≡ true → (i : ℕ) × HasBlock g m k i b
dir_has g m k b None used is = absurd (false≢true is)
dir_has g m k b (Some node) used is = by node.kind is
  where
    by : (kind : NodeKind) → has (if is_copied kind then run_places node.runs else []) b ≡ true → (i : ℕ) × HasBlock g m k i b
    by Free e = absurd (false≢true e)
    by Dir e = let p = place_of (run_places node.runs) b e in (p.0, record { node = node; is_node = used; place = p.1 })
    by File e = absurd (false≢true e)
    by Snapshot e = absurd (false≢true e)

-- so all directories' blocks are whole
pub dirs_whole : (g : Geometry) (m : Blocks) → AreSound g m → All (IsData g) (live_dirs g m) → All (λ b. length (m b) ≡ 1024) (live_dirs g m)
dirs_whole g m sound inside i d low =
    let b = get_or (live_dirs g m) i d in
    let there : has (live_dirs g m) b ≡ true = has_place (live_dirs g m) i b (slice_get-get_or (live_dirs g m) i d low) in
    let r = node_among (λ k. places_of_dir (used_node g m k)) g.i b (ap (λ xs. has xs b) (sym (dirs_are (used_node g m) g.i)) ∙ there) in
    let p = dir_has g m r.0 b (used_node g m r.0) refl r.1 in
    block_whole g m sound r.0 p.0 b p.1 (inside i d low)

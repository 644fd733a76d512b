use Rattle.std.proofs.Common.{◌≡◌, ℕ, ◌+◌, ◌-◌, ◌<◌, ◌≤◌, Bool, length, get_or, Some, subst, arith}
use Rattle.std.proofs.lemmas.Option.{slice_get-get_or}
use Rattle.base_types.specs.Seal.{Blocks}
use Rattle.base_types.specs.Runs.{run_places}
use Rattle.layout_geometry.specs.Geometry.{Geometry, IsGeometry, data_start}
use Rattle.crash_stands.specs.Files.{FileNode, files_of}
use Rattle.fs_files.specs.Drafts.{drafted}
use Rattle.fs_files.specs.Sound.{AreSoundBy}
use Rattle.fs_files.proofs.finishing.Few.{few_below}
use Rattle.fs_files.proofs.frames.Places.{file_node, has_place, places_needed, used_data, used_fits}
use Rattle.fs_files.proofs.frames.Steps.{used_once}
use Rattle.fs_files.proofs.laws.a_file_fits_the_disk.Goals as goal

-- a file has different data blocks, of which a disk has fewer than 2^20
file_fits : (g : Geometry) (marks : ℕ → Bool) (m : Blocks) (k : ℕ) (x : FileNode) → IsGeometry g → AreSoundBy g marks m → files_of g m k ≡ Some x → length x.bytes + 1024 ≤ 1073741824
file_fits g marks m k x limits sound file =
    let r = file_node g marks m k x sound file in
    let places = run_places r.0.runs in
    let inside : (i d : ℕ) → i < length places → (data_start g ≤ get_or places i d) × (get_or places i d < g.n)
    = λ i d low. let h = used_data g m k r.0 r.1 (get_or places i d) (has_place places i (get_or places i d) (slice_get-get_or places i d low)) in (h.from, h.below) in
    let few = few_below (λ b. b - data_start g) places (g.n - data_start g)
    (λ i j d low high e. used_once g marks m k r.0 sound r.1 i j d low high (omega (arith, e, (inside i d (omega (arith, low, high))).0, (inside j d high).0)))
    (λ i d low. omega (arith, (inside i d low).0, (inside i d low).1)) in
    omega (arith, few, places_needed g r.0 (used_fits g m k r.0 r.1), r.3, limits.most_blocks, limits.least_journal)

pub returns : goal.returns
returns g c = λ d k x tells draft file.
    file_fits (g.S.Blocks.state c.args.blocks.now).books.geom (draft.sound tells).live (drafted d (g.S.Blocks.state c.args.blocks.now).map) k x
    (subst IsGeometry c.geom.ensures c.lawful.ensures.limits) (draft.sound tells).blocks file

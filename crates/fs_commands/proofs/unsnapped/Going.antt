-- What goes with a snapshot: the blocks of its files are read from the blocks that it has.
use Rattle.std.proofs.Common.{◌≡◌, ℕ, ◌+◌, ◌<◌, ◌≤◌, ◌&&◌, ◌==◌, not, Bool, false, IsTrue, List, length, All, None, option_map, sym, subst, ap, ap₂, ◌∙◌, arith}
use Rattle.std.proofs.lemmas.List.Elements.{All-filter}
use Rattle.std.proofs.lemmas.Option.{none-some}
use Rattle.base_types.specs.Seal.{Blocks}
use Rattle.layout_geometry.specs.Geometry.{Geometry}
use Rattle.crash_stands.specs.Files.{file_of}
use Rattle.crash_stands.specs.Places.{kept_table, table_blocks}
use Rattle.crash_stands.specs.Stands.{AreSound}
use Rattle.engine_blocks.specs.Puts.{IsData}
use Rattle.engine_blocks.specs.Running.{has}
use Rattle.engine_blocks.specs.State.{Bookkeeping, State}
use Rattle.fs_files.specs.Calls.{facts_of, files_in}
use Rattle.fs_files.specs.Drafts.{DraftState, begun_beside}
use Rattle.fs_files.specs.Effects.{LooksOnly}
use Rattle.fs_files.specs.Shared.{keepers}
use Rattle.fs_session.specs.Commands.{places_of}
use Rattle.fs_session.specs.Snapshots.{alone_among, kept_files_of, live_files}
use Rattle.fs_commands.specs.Gathering.{files_in_table}
use Rattle.fs_commands.specs.Snapping.{IsSnapshot}
use Rattle.fs_commands.proofs.snapped.Kept.{PartsLaw, WholeLaw, places_parts, places_whole, still}

-- blocks of the data are below the end of the disk
pub data_below : (g : Geometry) (n : ℕ) (xs ys : List ℕ) → All (IsData g) xs → ys ≡ xs → n ≡ g.n → All (λ b. b < n) ys
data_below g n xs ys inside is end = subst (All (λ b. b < n)) (sym is) (λ i d low. omega (arith, (inside i d low).below, end))

-- those of a list that nothing else has are of the data too
pub alone_data : (g : Geometry) (counts files kept ks alone : List ℕ) → All (IsData g) kept → ks ≡ kept → alone ≡ alone_among counts files ks → All (IsData g) alone
alone_data g counts files kept ks alone inside are is =
    subst (All (IsData g)) (sym (is ∙ ap (alone_among counts files) are)) (All-filter (λ b. (keepers counts b == 1) && not (has files b)) (IsData g) kept inside)

module _ (tells : Bool) (s t : State) (looks : LooksOnly tells false s t) where
  -- so it is behind reads
  pub data_before : (xs : List ℕ) → All (IsData t.books.geom) xs → All (IsData s.books.geom) xs
  data_before xs inside = subst (λ (b : Bookkeeping). All (IsData b.geom) xs) looks.books inside

  -- what was gathered of the tree behind reads is there before them
  pub live_before : IsTrue tells → (files : List ℕ) → files ≡ live_files t.books.geom t.map → files ≡ live_files s.books.geom s.map
  live_before told files are = are ∙ ap₂ (λ (b : Bookkeeping) (m : Blocks). live_files b.geom m) looks.books (looks.map told)

  -- and what was gathered of a snapshot is what it keeps
  pub kept_before : IsTrue tells → AreSound s.books.geom s.map → WholeLaw → PartsLaw → (k : ℕ) (places files : List ℕ) → places ≡ places_of s k → IsSnapshot s.books.geom s.map k
      → (All (λ b. length (t.map b) ≡ 1024) places → 1 + table_blocks t.books.geom ≤ length places → files ≡ files_in_table t.books.geom (kept_table t.map places t.books.geom)) → files ≡ kept_files_of s.books.geom s.map k
  kept_before told sound whole_law parts_law k places files there snapshot gathered =
      let whole = places_whole s k places there sound whole_law snapshot in
      let parts = places_parts s k places there sound parts_law snapshot in
      gathered (still tells s t looks (λ g m. All (λ b. length (m b) ≡ 1024) places) told whole.own) (still tells s t looks (λ g m. 1 + table_blocks g ≤ length places) told (omega (arith, parts)))
      ∙ ap₂ (λ (b : Bookkeeping) (m : Blocks). files_in_table b.geom (kept_table m places b.geom)) looks.books (looks.map told)
      ∙ ap (λ ps. files_in_table s.books.geom (kept_table s.map ps s.books.geom)) there

-- a snapshot is opened
pub unopened : {counts : List ℕ} (s : State) (d : DraftState) (k : ℕ) → d ≡ begun_beside counts → IsSnapshot s.books.geom s.map k → None ≡ option_map facts_of (files_in s d k) → ⊥
unopened s d k begun (node, used, kind) none =
    none-some (facts_of (file_of s.books.geom.layout s.map node)) (none ∙ ap (λ e. option_map facts_of (files_in s e k)) begun ∙ ap (λ o. option_map facts_of (option_map (file_of s.books.geom.layout s.map) o)) used)

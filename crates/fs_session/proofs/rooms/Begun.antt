-- The room where nothing was done yet, and no data block is marked.
use Rattle.std.proofs.Common.{◌≡◌, ℕ, ◌-◌, ◌<◌, ◌||◌, true, false, List, [], ◌∷◌, length, refl, sym, ap, ◌∙◌, arith}
use Rattle.std.proofs.lemmas.Bool.{eq-eqb, true≢false}
use Rattle.std.proofs.lemmas.List.{nil_from_length}
use Rattle.std.proofs.lemmas.List.FromFn.{length-range_with_len}
use Rattle.layout_geometry.specs.Geometry.{data_start}
use Rattle.lang_tree.specs.Tree.{Tree}
use Rattle.crash_stands.specs.Stands.{IsTreeOf}
use Rattle.engine_blocks.specs.Calls.{IsSound}
use Rattle.engine_blocks.specs.Crashes.{IsBegun, IsTold}
use Rattle.engine_blocks.specs.Puts.{IsData}
use Rattle.engine_blocks.specs.Ranges.{counted, same_from}
use Rattle.engine_blocks.specs.Running.{has}
use Rattle.engine_blocks.specs.State.{State, live_blocks}
use Rattle.fs_session.specs.Commands.{kept_in, places_of}
use Rattle.fs_session.specs.Memory.{HasNoBlocks, room_of}
use Rattle.fs_session.specs.Room.{IsFirstRoom}
use Rattle.fs_snapshots.specs.Among.{is_among}
use Rattle.fs_session.proofs.standing.Nodes.{place_data}
use Rattle.fs_session.proofs.rooms.KeptBlocks.{SnapshotLaws, name_kept}
use Rattle.fs_session.proofs.rooms.Lists.{all_kept, kept_same, none_kept}
use Rattle.fs_session.proofs.rooms.Nodes.{kept_data, marked_kept, marked_place}

-- no data block is marked where none is set
pub none_marked : (s : State) → IsTold s → HasNoBlocks s → length (live_blocks s.books) ≡ 0
none_marked s told none =
    let first = data_start s.books.geom in
    let count = s.books.geom.n - first in
    ap (λ (xs : List ℕ). length xs)
    (same_from s.books.marked (λ b. false) first count (λ b from below.
    let within : b < s.books.geom.n = omega (arith, from, below) in
    told.bits b within ∙ none b from within)
    ∙ none_kept first count)

module _ (laws : SnapshotLaws) (s : State) (t : Tree) (told : IsTold s) (stands : IsTreeOf s.books.geom s.map t) (unmarked : length (live_blocks s.books) ≡ 0) where
  -- a list of marked data blocks has none
  no_list : (bs : List ℕ) → ((b : ℕ) → has bs b ≡ true → IsData s.books.geom b × (s.books.marked b ≡ true)) → bs ≡ []
  no_list [] each = refl
  no_list (b ∷ bs) each =
      let its = each b (ap (λ t. t || has bs b) (eq-eqb b b refl)) in
      let live : has (live_blocks s.books) b ≡ true = is_among s.books.marked (data_start s.books.geom) (s.books.geom.n - data_start s.books.geom) b its.0.from (omega (arith, its.0.from, its.0.below)) its.1 in
      absurd (true≢false (sym live ∙ ap (λ xs. has xs b) (nil_from_length (live_blocks s.books) unmarked)))

  pub first_room : IsSound s.books → s.books.waiting ≡ 0 → IsBegun s → IsFirstRoom s.books.geom (room_of s)
  first_room books none begun = record {
    weight = begun.weight;
    held = begun.held;
    takeable = kept_same s.books.reusable (λ b. true) first count (λ b from below free. refl) long ∙ all_kept first count;
    places = λ k. no_list (places_of s k) (λ b is. (place_data s.books.geom s.map k b is, marked_place s told.bits stands.sound k b is));
    kept = λ name k. no_list (kept_in s name k) (λ b is. let x = name_kept laws s.books.geom s.map t stands name k b is in (kept_data s told.bits stands.sound b x, marked_kept s told.bits stands.sound b x));
  }
    where
      first : ℕ
      first = data_start s.books.geom

      count : ℕ
      count = s.books.geom.n - first

      long : counted s.books.reusable first count ≡ counted (λ b. true) first count
      long = omega (arith, books.accounts, books.area, begun.held, none, unmarked, ap (λ (xs : List ℕ). length xs) (all_kept first count), length-range_with_len first count)

-- The room stays where the map of blocks, the transaction and what may be taken stay, and nothing waits.
use Rattle.std.proofs.Common.{◌≡◌, ℕ, ◌-◌, ◌<◌, Bool, true, false, List, length, filter, refl, sym, ap, ap₂, ◌∙◌, arith}
use Rattle.base_types.specs.Counts.{after_call}
use Rattle.base_types.specs.Seal.{Blocks}
use Rattle.layout_geometry.specs.Geometry.{Geometry, data_start}
use Rattle.layout_bytes.specs.Bitmap.{is_set}
use Rattle.engine_blocks.specs.Calls.{IsSound}
use Rattle.engine_blocks.specs.Crashes.{IsTold}
use Rattle.engine_blocks.specs.Ranges.{counted, same_from}
use Rattle.engine_blocks.specs.Running.{Running}
use Rattle.engine_blocks.specs.State.{State, IsReusable, data_blocks, live_blocks, reusable_blocks}
use Rattle.fs_session.specs.Snapshots.{kept_lists}
use Rattle.fs_session.specs.Commands.{places_of}
use Rattle.fs_session.specs.Lists.{KeptLists}
use Rattle.fs_session.specs.Memory.{room_of}
use Rattle.fs_session.specs.Room.{Room}
use Rattle.fs_session.proofs.standing.Nodes.{places_at}
use Rattle.fs_session.proofs.rooms.Lists.{kept_same}

-- two rooms are the same where their parts are
pub rooms : (r s : Room) → r.weight ≡ s.weight → r.held ≡ s.held → r.takeable ≡ s.takeable → r.places ≡ s.places → r.kept ≡ s.kept → r ≡ s
rooms r s weight held takeable places kept =
    ap₂ (λ w h. record r { weight = w; held = h }) weight held
    ∙ ap₂ (λ (xs : List ℕ) (f : ℕ → List ℕ). record s { takeable = xs; places = f; kept = r.kept }) takeable places
    ∙ ap (λ (k : KeptLists). record s { kept = k }) kept

-- a call that failed would have been counted
pub never_failed : (failed : Bool) (old new : ℕ) → new ≡ after_call failed old → new ≡ 0 → failed ≡ false
never_failed true old new counts none = absurd (omega (arith, counts, none))
never_failed false old new counts none = refl

-- the nodes have the same blocks in the same map
pub places_same : (s t : State) → t.books.geom ≡ s.books.geom → t.map ≡ s.map → places_of t ≡ places_of s
places_same s t geom map = let at : Geometry → Blocks → ℕ → List ℕ = λ g m k. places_at g m k in ap₂ at geom map

module _ (s t : State) (before : IsTold s) (after : IsTold t) (geom : t.books.geom ≡ s.books.geom) (map : t.map ≡ s.map) where
  pub marks_same : (b : ℕ) → b < s.books.geom.n → t.books.marked b ≡ s.books.marked b
  marks_same b below =
      after.bits b (omega (arith, below, ap (λ (g : Geometry). g.n) geom)) ∙ ap₂ (λ (g : Geometry) (m : Blocks). is_set g m b) geom map ∙ sym (before.bits b below)

  pub live_same : live_blocks t.books ≡ live_blocks s.books
  live_same =
      ap (λ (g : Geometry). filter t.books.marked (data_blocks g)) geom
      ∙ same_from t.books.marked s.books.marked (data_start s.books.geom) (s.books.geom.n - data_start s.books.geom) (λ b from below. marks_same b (omega (arith, from, below)))

  pub takeable_same : IsSound s.books → IsSound t.books → s.books.waiting ≡ 0 → t.books.waiting ≡ 0 → t.books.running.held ≡ s.books.running.held → ((b : ℕ) → IsReusable s.books.geom s.books.reusable b → t.books.reusable b ≡ true)
      → reusable_blocks t.books ≡ reusable_blocks s.books
  takeable_same sound sound_after none none_after held takeable =
      moved ∙ sym (kept_same s.books.reusable t.books.reusable first (s.books.geom.n - first) (λ b from below free. takeable b (record { from = from; below = omega (arith, from, below); free = free })) long)
    where
      first : ℕ
      first = data_start s.books.geom

      moved : reusable_blocks t.books ≡ filter t.books.reusable (data_blocks s.books.geom)
      moved = ap (λ (g : Geometry). filter t.books.reusable (data_blocks g)) geom

      long : counted s.books.reusable first (s.books.geom.n - first) ≡ counted t.books.reusable first (s.books.geom.n - first)
      long = omega (arith, sound.accounts, sound_after.accounts, sound.area, sound_after.area, ap (λ (g : Geometry). g.n - data_start g) geom, ap (λ (xs : List ℕ). length xs) live_same, ap (λ (xs : List ℕ). length xs) moved, none, none_after, held)

  pub room_same : IsSound s.books → IsSound t.books → s.books.waiting ≡ 0 → t.books.waiting ≡ 0 → t.books.running ≡ s.books.running → ((b : ℕ) → IsReusable s.books.geom s.books.reusable b → t.books.reusable b ≡ true)
      → room_of t ≡ room_of s
  room_same sound sound_after none none_after running takeable =
      let held = ap (λ (r : Running). r.held) running in
      rooms (room_of t) (room_of s) (ap (λ (r : Running). r.weight) running) held (takeable_same sound sound_after none none_after held takeable) (places_same s t geom map) (ap₂ kept_lists geom map)

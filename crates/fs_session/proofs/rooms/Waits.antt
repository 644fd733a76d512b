-- What waits by the rooms that blocks show: where their bookkeepings serve the same blocks, all that waited, or just the sure ones, so do their rooms.
use Rattle.std.proofs.Common.{◌≡◌, ◌⊎◌, inl, inr, ℕ, ◌-◌, ◌<◌, ◌≤◌, Bool, not, ◌&&◌, ◌||◌, filter, is_some, Some, sym, subst, ap, ap₂, ◌∙◌, refl, arith}
use Rattle.std.proofs.lemmas.Bool.{cases_lt, le-leb, lt-ltb}
use Rattle.layout_geometry.specs.Geometry.{Geometry, data_start}
use Rattle.lang_tree.specs.Tree.{Tree}
use Rattle.engine_blocks.specs.Calls.{commit_places}
use Rattle.engine_blocks.specs.Puts.{IsData}
use Rattle.engine_blocks.specs.Ranges.{same_from}
use Rattle.engine_blocks.specs.Running.{has}
use Rattle.engine_blocks.specs.Serving.{EndsFrees, LetsGo, SameFreed, ServesSure, Waits, is_held, is_sure_in, with_all_served}
use Rattle.engine_blocks.specs.State.{Bookkeeping, State, data_blocks, reusable_blocks}
use Rattle.fs_files.specs.Effects.{ServesAllOrNone}
use Rattle.fs_session.specs.Room.{is_in_use}
use Rattle.fs_session.specs.Memory.{room_of}
use Rattle.fs_session.specs.Serving.{LetsGoIn, RoomOn, SameWait, ServesRoom, SyncsRoomOn, WaitsFor, is_held_in, moment_of, room_on, with_all_serving}
use Rattle.fs_session.proofs.rooms.Known.{room_with}
use Rattle.fs_session.proofs.rooms.Lists.{kept_where}

-- the room of blocks in which what may be taken and what waits is as in this bookkeeping
abbrev pub room_on_with : State → Bookkeeping → RoomOn
room_on_with s k = record { room = room_with s k; since = k.since }

-- a data block may be taken by the room where it may by the bookkeeping
takeable_is : (k : Bookkeeping) (b : ℕ) → IsData k.geom b → has (reusable_blocks k) b ≡ k.reusable b
takeable_is k b at = kept_where k.reusable (data_start k.geom) (k.geom.n - data_start k.geom) b at.from (omega (arith, at.from, at.below))

module _ (k l : Bookkeeping) (geom : l.geom ≡ k.geom) where
  -- also of another with the same geometry
  takeable_in : (b : ℕ) → IsData k.geom b → has (reusable_blocks l) b ≡ l.reusable b
  takeable_in b at = takeable_is l b (subst (λ (g : Geometry). IsData g b) (sym geom) at)

  -- what both bookkeepings serve alike, where one has this test
  takeable_as : (test : ℕ → Bool) → ((b : ℕ) → IsData k.geom b → l.reusable b ≡ test b) → reusable_blocks l ≡ filter test (data_blocks k.geom)
  takeable_as test same =
      ap (λ (g : Geometry). filter l.reusable (data_blocks g)) geom
      ∙ same_from l.reusable test (data_start k.geom) (k.geom.n - data_start k.geom) (λ b from below. same b (record { from = from; below = omega (arith, from, below) }))

  module _ (s t : State) where
    -- the same blocks
    pub same_wait : SameFreed k l → SameWait k.geom (room_on_with s k) (room_on_with t l)
    same_wait same = record { takeable = takeable_as k.reusable same.reusable; since = same.since }

    -- all that waited
    all_wait : SameFreed (with_all_served k) l → SameWait k.geom (with_all_serving k.geom (room_on_with s k)) (room_on_with t l)
    all_wait same = record {
      takeable = takeable_as (λ b. has (reusable_blocks k) b || is_some (k.since b)) (λ b at. same.reusable b at ∙ ap (λ x. x || is_some (k.since b)) (sym (takeable_is k b at)));
      since = same.since;
    }

    pub all_or_none : ServesAllOrNone k l → SameWait k.geom (room_on_with s k) (room_on_with t l) ⊎ SameWait k.geom (with_all_serving k.geom (room_on_with s k)) (room_on_with t l)
    all_or_none (inl same) = inl (same_wait same)
    all_or_none (inr all) = inr (all_wait all)

-- just those whose point is sure
pub serves_room : (s t : State) → t.books.geom ≡ s.books.geom → ServesSure s t → ServesRoom s.books.geom (moment_of t) (room_on s) (room_on t)
serves_room s t geom x = record {
  serves = λ b p at since. (λ may. (x.serves b p at since).0 (sym (now b at) ∙ may), λ sure. now b at ∙ (x.serves b p at since).1 sure);
  others = λ b at none. now b at ∙ x.others b at none ∙ sym (takeable_is s.books b at);
  serving = λ b at may. x.serving b at (sym (now b at) ∙ may);
  waiting = λ b at gone. x.waiting b at (sym (now b at) ∙ gone);
}
  where
    now : (b : ℕ) → IsData s.books.geom b → has (reusable_blocks t.books) b ≡ t.books.reusable b
    now b at = takeable_in s.books t.books geom b at

-- A sync.

-- what was held by the bookkeeping was so in a room with the same blocks
module _ (k : Bookkeeping) (r : RoomOn) (t : State) (geom : t.books.geom ≡ k.geom) (takeable : (b : ℕ) → IsData k.geom b → has r.room.takeable b ≡ k.reusable b) (since : (b : ℕ) → r.since b ≡ k.since b)
    (tree : Tree) (marked : (b : ℕ) → IsData k.geom b → k.marked b ≡ is_in_use k.geom tree r.room b) where
  held_is : (b : ℕ) → IsData k.geom b → is_held k b ≡ is_held_in k.geom tree r b
  held_is b at =
      ap₂ (λ from below. from && (below && not (k.marked b || (k.reusable b || is_some (k.since b))))) (le-leb (data_start k.geom) b at.from) (lt-ltb b k.geom.n at.below)
      ∙ ap₂ (λ m u. not (m || (u || is_some (k.since b)))) (marked b at) (sym (takeable b at))
      ∙ ap (λ o. not (is_in_use k.geom tree r.room b || (has r.room.takeable b || is_some o))) (sym (since b))

  waits_for : (point b : ℕ) → t.books.point ≡ point → IsData k.geom b → Waits t b → WaitsFor (moment_of t) point (room_on t) b
  waits_for point b is at (inl waits) = inl (takeable_in k t.books geom b at ∙ waits.0, waits.1 ∙ ap Some is)
  waits_for point b is at (inr sure) = inr (subst (λ p. is_sure_in t p) is sure.0, takeable_in k t.books geom b at ∙ sure.1, sure.2)

  lets_go : (point : ℕ) → t.books.point ≡ point → LetsGo k t → LetsGoIn k.geom (moment_of t) tree point r (room_on t)
  lets_go point is x = record {
    held = λ b at held. waits_for point b is at (x.held b (held_is b at ∙ held));
    takeable = λ b at free. takeable_in k t.books geom b at ∙ x.reusable b at (held_is b at ∙ free) ∙ sym (takeable b at);
    since = λ b at free. x.since b at (held_is b at ∙ free) ∙ sym (since b);
  }

-- the room behind a sync that is done
module _ (s t : State) (geom : t.books.geom ≡ s.books.geom) (tree : Tree) (marked : (b : ℕ) → IsData s.books.geom b → s.books.marked b ≡ is_in_use s.books.geom tree (room_of s) b) (point : ℕ) (is : t.books.point ≡ point) where
  those_wait : LetsGo s.books t → LetsGoIn s.books.geom (moment_of t) tree point (room_on s) (room_on t)
  those_wait x = lets_go s.books (room_on s) t geom (λ b at. takeable_is s.books b at) (λ b. refl) tree marked point is x

  all_serve : LetsGo (with_all_served s.books) t → LetsGoIn s.books.geom (moment_of t) tree point (with_all_serving s.books.geom (room_on s)) (room_on t)
  all_serve x =
      lets_go (with_all_served s.books) (with_all_serving s.books.geom (room_on s)) t geom
      (λ b at. kept_where (λ b. has (reusable_blocks s.books) b || is_some (s.books.since b)) (data_start s.books.geom) (s.books.geom.n - data_start s.books.geom) b at.from (omega (arith, at.from, at.below))
      ∙ ap (λ x. x || is_some (s.books.since b)) (takeable_is s.books b at))
      (λ b. refl) tree marked point is x

  pub syncs_room_on : EndsFrees s t → SyncsRoomOn s.books.geom (moment_of s) (moment_of t) tree point (room_on s) (room_on t)
  syncs_room_on x = record {
    idle = λ none. same_wait s.books t.books geom s t (x.idle none);
    some = λ some. by some (cases_lt s.books.free_places (commit_places s.books));
    fits = λ some fits. those_wait (x.fits some fits);
  }
    where
      by : 0 < s.books.running.weight → (s.books.free_places < commit_places s.books) ⊎ (commit_places s.books ≤ s.books.free_places)
          → LetsGoIn s.books.geom (moment_of t) tree point (room_on s) (room_on t) ⊎ LetsGoIn s.books.geom (moment_of t) tree point (with_all_serving s.books.geom (room_on s)) (room_on t)
      by some (inl short) = inr (all_serve (x.drains some (λ fits. absurd (omega (arith, short, fits)))))
      by some (inr fits) = inl (those_wait (x.fits some fits))

-- A draft in which nothing was done.
use Rattle.std.proofs.Common.{◌≡◌, ◌⊎◌, inl, inr, ℕ, zero, suc, ◌<◌, ◌≤◌, Bool, true, false, ◌&&◌, ◌||◌, List, [], slice_get, Some, nat_le, nat_lt, refl, sym, ap, subst, ◌∙◌, ⊎_elim, arith, rules}
use Rattle.std.proofs.lemmas.Bool.{cases_eq, lt-ltb, or_cases, or_left, or_right, false≢true}
use Rattle.std.proofs.lemmas.Bool.Decides.{nat_tests}
use Rattle.std.proofs.lemmas.Option.{none-some, same_Some}
use Rattle.base_types.specs.Runs.{run_places}
use Rattle.base_types.specs.Seal.{Blocks}
use Rattle.layout_geometry.specs.Geometry.{Geometry, bitmap_start, data_start}
use Rattle.layout_bytes.specs.declared.node.Node.{Node}
use Rattle.layout_bytes.specs.Bitmap.{is_set}
use Rattle.engine_blocks.specs.Puts.{IsData}
use Rattle.engine_blocks.specs.Running.{HasNoBare, has}
use Rattle.engine_blocks.specs.State.{Bookkeeping, State}
use Rattle.engine_blocks.specs.Crashes.{IsTold}
use Rattle.crash_stands.specs.Files.{used_node}
use Rattle.crash_stands.specs.Places.{kept_table}
use Rattle.crash_stands.specs.Sharing.{IsKeptBlock}
use Rattle.crash_stands.specs.Stands.{AreSound, HasBlock, HasNoSnapshots}
use Rattle.fs_files.specs.Calls.{places_of}
use Rattle.fs_files.specs.Drafts.{begun_beside}
use Rattle.fs_files.specs.Shared.{is_kept}
use Rattle.fs_files.specs.Sound.{AreSoundBeside, FitsBooks, HasSoundKept, IsSoundDraft, TellsKept}
use Rattle.fs_files.proofs.frames.Frames.{block_at, places_have}
use Rattle.fs_files.proofs.frames.Places.{has_place, place_of, used_within}

pub begun_fits : (k : Bookkeeping) (kept : List ℕ) → HasNoBare k.running → FitsBooks k (begun_beside kept)
begun_fits k kept none = search (rules, arith)

pub live_from : (g : Geometry) (m : Blocks) (b : ℕ) → bitmap_start g ≤ b → b < g.n → (nat_lt b (data_start g) || is_set g m b) ≡ true → (nat_le (bitmap_start g) b && (nat_lt b g.n && (nat_lt b (data_start g) || is_set g m b))) ≡ true
live_from g m b low high one = grind (arith, nat_tests)

-- whether one of the first n nodes has block b
abbrev pub is_had : Geometry → Blocks → ℕ → ℕ → Bool
is_had g m b zero = false
is_had g m b (suc n) = has (places_of g m (suc n)) b || is_had g m b n

pub had_has : (g : Geometry) (m : Blocks) (b n : ℕ) → is_had g m b n ≡ true → (k : ℕ) × (i : ℕ) × HasBlock g m k i b
had_has g m b zero is = absurd (false≢true is)
had_has g m b (suc n) is = by (had_has g m b n) (or_cases (has (places_of g m (suc n)) b) (is_had g m b n) is)
  where
    by : (is_had g m b n ≡ true → (k : ℕ) × (i : ℕ) × HasBlock g m k i b) → (has (places_of g m (suc n)) b ≡ true) ⊎ (is_had g m b n ≡ true) → (k : ℕ) × (i : ℕ) × HasBlock g m k i b
    by below (inl here) = let r = place_of (places_of g m (suc n)) b here in (suc n, r.0, block_at g m (suc n) r.0 b (used_node g m (suc n)) refl r.1)
    by below (inr rest) = below rest

has_had : (g : Geometry) (m : Blocks) (b n k i : ℕ) → 1 ≤ k → k ≤ n → HasBlock g m k i b → is_had g m b n ≡ true
has_had g m b zero k i from upto h = absurd (omega (arith, from, upto))
has_had g m b (suc n) k i from upto h = ⊎_elim
    (λ here. or_left (has (places_of g m (suc n)) b) (is_had g m b n) (subst (λ l. has (places_of g m l) b ≡ true) here (has_place (places_of g m k) i b (places_have g m k i b (used_node g m k) refl h))))
    (λ other. or_right (has (places_of g m (suc n)) b) (is_had g m b n) (has_had g m b n k i from (omega (arith, upto, other)) h))
    (cases_eq k (suc n))

pub had_by : (g : Geometry) (m : Blocks) (b : ℕ) → ((k : ℕ) × (i : ℕ) × HasBlock g m k i b) → is_had g m b g.i ≡ true
had_by g m b r = let at = used_within g m r.0 r.2.node r.2.is_node in has_had g m b g.i r.0 r.1 at.0 at.1 r.2

same_bool : (x y : Bool) → (x ≡ true → y ≡ true) → (y ≡ true → x ≡ true) → x ≡ y
same_bool x y e h = grind (arith, nat_tests)

-- blocks that are sound beside kept ones have what a draft in which nothing was done asks
pub begun_sound : (s : State) (kept : List ℕ) → data_start s.books.geom ≤ s.books.geom.n → IsTold s → AreSoundBeside s.books.geom (is_kept kept) s.map → IsSoundDraft s.books s.map (begun_beside kept)
begun_sound s kept room told sound = record {
  live = λ b. is_had g s.map b g.i;
  blocks = record {
    table = λ b low high. sound.whole b (live_from g s.map b (omega (arith, low)) (omega (arith, high, room)) (or_left (nat_lt b (data_start g)) (is_set g s.map b) (lt-ltb b (data_start g) high)));
    «data» = λ b low high is. sound.whole b (live_from g s.map b (omega (arith, low)) high (or_right (nat_lt b (data_start g)) (is_set g s.map b) ((sound.marked b low high).1 (inl (had_has g s.map b g.i is)))));
    own = sound.own;
    marked = λ b low high. (had_has g s.map b g.i, had_by g s.map b);
    free = sound.free;
    tail = sound.tail;
  };
  bits = λ b low high. told.bits b high ∙ same_bool (is_set g s.map b) (is_had g s.map b g.i || is_kept kept b)
      (λ is. either b ((sound.marked b low high).0 is))
      (λ is. (sound.marked b low high).1 (whose b (or_cases (is_had g s.map b g.i) (is_kept kept b) is)));
  untouched = λ b keep. let at = sound.inside b keep in (at, told.bits b at.below ∙ (sound.marked b at.from at.below).1 (inr keep), refl);
  shared = λ b n i node keep h used. sound.shared b n i node keep h used;
  changed = λ b c e. absurd (none-some c e);
  fresh = λ b c e. absurd (none-some c e);
  apart = λ b is. absurd (false≢true is);
  freed = λ i d low. absurd (omega (arith, low));
  once = λ i j d lt within. absurd (omega (arith, within));
}
  where
    g : Geometry
    g = s.books.geom

    either : (b : ℕ) → ((k : ℕ) × (i : ℕ) × HasBlock s.books.geom s.map k i b) ⊎ (is_kept kept b ≡ true) → (is_had s.books.geom s.map b s.books.geom.i || is_kept kept b) ≡ true
    either b (inl found) = or_left (is_had s.books.geom s.map b s.books.geom.i) (is_kept kept b) (had_by s.books.geom s.map b found)
    either b (inr keep) = or_right (is_had s.books.geom s.map b s.books.geom.i) (is_kept kept b) keep

    whose : (b : ℕ) → (is_had s.books.geom s.map b s.books.geom.i ≡ true) ⊎ (is_kept kept b ≡ true) → ((k : ℕ) × (i : ℕ) × HasBlock s.books.geom s.map k i b) ⊎ (is_kept kept b ≡ true)
    whose b (inl is) = inl (had_has s.books.geom s.map b s.books.geom.i is)
    whose b (inr keep) = inr keep

-- Where the kept blocks are those that snapshots keep.
module _ (within : (g : Geometry) (m : Blocks) (k : ℕ) (node : Node) → used_node g m k ≡ Some node → (i b : ℕ) → slice_get (run_places node.runs) i ≡ Some b → (data_start g ≤ b) × (b < g.n)) where
  pub beside_kept : (g : Geometry) (m : Blocks) (kept : ℕ → Bool) → TellsKept g kept m → AreSound g m → AreSoundBeside g kept m
  beside_kept g m kept tells sound = record {
    whole = sound.whole;
    own = sound.own;
    fixed = sound.fixed;
    marked = λ b low high. (λ is. there b ((sound.marked b low high).0 is), λ has. (sound.marked b low high).1 (back b has));
    inside = λ b keep. inside b ((tells b).0 keep);
    shared = λ b k i node keep h used.
        ap (λ (x : Node). x.kind) (same_Some node h.node (sym used ∙ h.is_node)) ∙ sound.shared k i b h ((tells b).0 keep);
    past = sound.past;
    free = sound.free;
    tail = sound.tail;
  }
    where
      there : (b : ℕ) → ((k : ℕ) × (i : ℕ) × HasBlock g m k i b) ⊎ IsKeptBlock g m b → ((k : ℕ) × (i : ℕ) × HasBlock g m k i b) ⊎ (kept b ≡ true)
      there b (inl h) = inl h
      there b (inr one) = inr ((tells b).1 one)

      back : (b : ℕ) → ((k : ℕ) × (i : ℕ) × HasBlock g m k i b) ⊎ (kept b ≡ true) → ((k : ℕ) × (i : ℕ) × HasBlock g m k i b) ⊎ IsKeptBlock g m b
      back b (inl h) = inl h
      back b (inr keep) = inr ((tells b).0 keep)

      inside : (b : ℕ) → IsKeptBlock g m b → IsData g b
      inside b one =
          let at = within g (kept_table m (run_places one.node.runs) g) one.number one.has.node one.has.is_node one.place b one.has.place in
          record { from = at.0; below = at.1 }

pub sound_with_kept : (g : Geometry) (m : Blocks) (kept : ℕ → Bool) → TellsKept g kept m → HasSoundKept g m → AreSoundBeside g kept m → AreSound g m
sound_with_kept g m kept tells each sound = record {
  whole = sound.whole;
  own = sound.own;
  fixed = sound.fixed;
  marked = λ b low high. (λ is. there b ((sound.marked b low high).0 is), λ has. (sound.marked b low high).1 (back b has));
  past = sound.past;
  free = sound.free;
  tail = sound.tail;
  shared = λ k i b h one. sound.shared b k i h.node ((tells b).1 one) h h.is_node;
  kept = each;
}
  where
    there : (b : ℕ) → ((k : ℕ) × (i : ℕ) × HasBlock g m k i b) ⊎ (kept b ≡ true) → ((k : ℕ) × (i : ℕ) × HasBlock g m k i b) ⊎ IsKeptBlock g m b
    there b (inl h) = inl h
    there b (inr keep) = inr ((tells b).0 keep)

    back : (b : ℕ) → ((k : ℕ) × (i : ℕ) × HasBlock g m k i b) ⊎ IsKeptBlock g m b → ((k : ℕ) × (i : ℕ) × HasBlock g m k i b) ⊎ (kept b ≡ true)
    back b (inl h) = inl h
    back b (inr one) = inr ((tells b).1 one)

-- where nothing is kept
pub nothing_told : (g : Geometry) (m : Blocks) → HasNoSnapshots g m → TellsKept g (is_kept []) m
nothing_told g m none b = (λ keep. absurd (false≢true keep), λ one. absurd (none one.snapshot one.node one.is_node one.kind))

pub none_unsound : (g : Geometry) (m : Blocks) → HasNoSnapshots g m → HasSoundKept g m
none_unsound g m none k node used kind = absurd (none k node used kind)

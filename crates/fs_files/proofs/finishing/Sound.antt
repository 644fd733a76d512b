-- The blocks are sound once the changes of a draft are made.
use Rattle.std.proofs.Common.{◌≡◌, ◌⊎◌, inl, inr, ℕ, suc, ◌-◌, ◌<◌, ◌≤◌, Bool, true, false, nat_lt, nat_le, not, ◌&&◌, ◌||◌, IsTrue, List, [], ◌∷◌, length, drop, All, filter, refl, sym, ap, subst, ◌∙◌, arith}
use Rattle.std.proofs.lemmas.Bool.{and_parts, ltb-true, ne_eqb, or_cases, or_left, or_right}
use Rattle.std.proofs.lemmas.Bool.Decides.{nat_tests}
use Rattle.base_types.specs.Seal.{Blocks}
use Rattle.layout_geometry.specs.Geometry.{Geometry, IsGeometry, bitmap_start, data_start}
use Rattle.layout_bytes.specs.Bitmap.{is_set}
use Rattle.layout_bytes.specs.Bytes.{are_zeros}
use Rattle.layout_bytes.specs.Node.{content_of, node_of}
use Rattle.engine_blocks.specs.Running.{Spare, is_bare, has, HasNoBare}
use Rattle.engine_blocks.specs.State.{State, data_blocks}
use Rattle.engine_blocks.specs.Calls.{IsSound}
use Rattle.engine_blocks.specs.Crashes.{IsTold}
use Rattle.engine_blocks.specs.Puts.{IsData}
use Rattle.crash_stands.specs.Stands.{HasBlock}
use Rattle.fs_files.specs.Drafts.{DraftState, drafted, marks_of}
use Rattle.fs_files.specs.Shared.{is_kept}
use Rattle.fs_files.specs.Sound.{AreSoundBeside, FitsBooks, IsSoundDraft}
use Rattle.fs_files.specs.Calls.{places_or_none}
use Rattle.fs_files.specs.Finish.{BooksFinished, MapFinished}
use Rattle.fs_files.specs.Making.{after_draft, AreDrafted}
use Rattle.fs_files.proofs.finishing.Nodes.{AreAlike, bytes_alike, used_alike, joined_alike, files_alike, has_block}
use Rattle.fs_files.proofs.finishing.Counts.{same_count, draft_count, draft_holds}
use Rattle.fs_files.proofs.drafts.Lists.{none_of_table}

-- Live blocks.

-- a block is before the data, or its bit is set
abbrev is_live : Geometry → Blocks → ℕ → Bool
is_live g m b = nat_le (bitmap_start g) b && (nat_lt b g.n && (nat_lt b (data_start g) || is_set g m b))

live_by : (l n d s m b : Bool) → m ≡ s → b ≡ false → (l && (n && (d || s))) ≡ true → (l && (d || (n && (m && not b)))) ≡ true
live_by l n d s m b e h p = grind (arith, nat_tests)

-- each live block has its bytes
live_whole : (s : State) → IsTold s → HasNoBare s.books.running → (b : ℕ) → IsTrue (is_live s.books.geom s.map b) → length (s.map b) ≡ 1024
live_whole s told none b live =
    let g = s.books.geom in
    let outer = and_parts (nat_le (bitmap_start g) b) (nat_lt b g.n && (nat_lt b (data_start g) || is_set g s.map b)) live in
    let low = ltb-true b g.n (and_parts (nat_lt b g.n) (nat_lt b (data_start g) || is_set g s.map b) outer.1).0 in
    told.whole b low (live_by (nat_le (bitmap_start g) b) (nat_lt b g.n) (nat_lt b (data_start g)) (is_set g s.map b) (s.books.marked b) (is_bare (s.books.running.roles b)) (told.bits b low) (none b) live)

-- Bits.

high_out : (g : Geometry) (bs : List ℕ) (c : ℕ) → All (IsData g) bs → g.n ≤ c → has bs c ≡ false
high_out g [] c all high = refl
high_out g (b ∷ bs) c all high =
    ap (λ t. t || has bs c) (ne_eqb c b (λ e. omega (arith, e, high, (all 0 0 (omega arith)).below)))
    ∙ high_out g bs c (λ i d l. all (suc i) d (omega (arith, l))) high

set_by : (f t o : Bool) → f ≡ false → o ≡ true → (not f && (t || o)) ≡ true
set_by f t o e h = grind (arith, nat_tests)

clear_by : (f t o : Bool) → t ≡ false → o ≡ false → (not f && (t || o)) ≡ false
clear_by f t o e h = grind (arith, nat_tests)

module _ (d : DraftState) (s new : State) (spare : Spare) (geom : IsGeometry s.books.geom) (fits : FitsBooks s.books d) (sound : IsSoundDraft s.books s.map d)
    (told : IsTold s) (told_new : IsTold new) (own : IsSound s.books) (books : new.books ≡ after_draft (record s.books { spare = spare }) d) (finished : BooksFinished d s.books new.books) (made : AreDrafted s.books.geom d s.map new.map) where
  g : Geometry
  g = s.books.geom

  alike : AreAlike s.books.geom new.map (drafted d s.map)
  alike b from below = made.lies b from

  back : AreAlike s.books.geom (drafted d s.map) new.map
  back b from below = sym (made.lies b from)

  same_geom : new.books.geom ≡ s.books.geom
  same_geom = ap (λ k. k.geom) finished.same

  taken_data : All (IsData s.books.geom) d.taken
  taken_data i e low = record { from = (fits.taken.each i e low).from; below = (fits.taken.each i e low).below }

  -- the bits of the data are the draft's marks
  bit_is : (b : ℕ) → b < s.books.geom.n → is_set s.books.geom new.map b ≡ marks_of d s.books.marked b
  bit_is b low = made.bits b (omega (arith, low)) ∙ ap (λ x. not (has d.freed b) && (has d.taken b || x)) (sym (told.bits b low))

  -- who has a block whose bit is set
  whose : (b : ℕ) → (sound.live b ≡ true) ⊎ (is_kept d.kept b ≡ true) → data_start s.books.geom ≤ b → b < s.books.geom.n → ((k : ℕ) × (i : ℕ) × HasBlock s.books.geom new.map k i b) ⊎ (is_kept d.kept b ≡ true)
  whose b (inl is) from below = let found = (sound.blocks.marked b from below).0 is in inl (found.0, found.1, has_block s.books.geom new.map (drafted d s.map) geom alike found.0 found.1 b found.2)
  whose b (inr keep) from below = inr keep

  has_bit : (b : ℕ) → ((k : ℕ) × (i : ℕ) × HasBlock s.books.geom new.map k i b) ⊎ (is_kept d.kept b ≡ true) → data_start s.books.geom ≤ b → b < s.books.geom.n → (sound.live b || is_kept d.kept b) ≡ true
  has_bit b (inl found) from below = or_left (sound.live b) (is_kept d.kept b) ((sound.blocks.marked b from below).1 (found.0, found.1, has_block s.books.geom (drafted d s.map) new.map geom back found.0 found.1 b found.2))
  has_bit b (inr keep) from below = or_right (sound.live b) (is_kept d.kept b) keep

  all_whole : (b : ℕ) → IsTrue (is_live s.books.geom new.map b) → length (new.map b) ≡ 1024
  all_whole = subst (λ h. (b : ℕ) → IsTrue (is_live h new.map b) → length (new.map b) ≡ 1024) same_geom (live_whole new told_new finished.none_bare)

  sound_kept : AreSoundBeside s.books.geom (is_kept d.kept) s.map → AreSoundBeside s.books.geom (is_kept d.kept) new.map
  sound_kept before = record {
    whole = all_whole;
    own = λ k l i j b x y. sound.blocks.own k l i j b (has_block s.books.geom (drafted d s.map) new.map geom back k i b x) (has_block s.books.geom (drafted d s.map) new.map geom back l j b y);
    fixed = λ b low. made.bits b (omega (arith, low, geom.data_room)) ∙ set_by (has d.freed b) (has d.taken b) (is_set s.books.geom s.map b) (none_of_table s.books.geom d.freed b fits.freed low) (before.fixed b low);
    marked = λ b from below. (
      (λ is. whose b (or_cases (sound.live b) (is_kept d.kept b) (sym (sound.bits b from below) ∙ sym (bit_is b below) ∙ is)) from below),
      (λ has. bit_is b below ∙ sound.bits b from below ∙ has_bit b has from below),
    );
    inside = before.inside;
    shared = λ b k i node keep h used.
        sound.shared b k i node keep (has_block s.books.geom (drafted d s.map) new.map geom back k i b h) (used_alike s.books.geom (drafted d s.map) new.map geom back k ∙ used);
    past = λ b from below. made.bits b below ∙ clear_by (has d.freed b) (has d.taken b) (is_set s.books.geom s.map b) (high_out s.books.geom d.taken b taken_data from) (before.past b from below);
    free = λ k from upto none.
        let bytes = bytes_alike s.books.geom new.map (drafted d s.map) geom alike k from upto in
        bytes ∙ sound.blocks.free k from upto (sym (ap (node_of s.books.geom) bytes) ∙ none);
    tail = λ k node used dir.
        subst (λ ys. IsTrue (are_zeros (drop (content_of s.books.geom.layout node.kind node.size) ys))) (joined_alike s.books.geom (drafted d s.map) new.map new.map k node back used)
        (sound.blocks.tail k node (used_alike s.books.geom (drafted d s.map) new.map geom back k ∙ used) dir);
  }

  pub map_finished : MapFinished d s new
  map_finished = record {
    blocks = λ b from below. made.lies b from;
    files = files_alike s.books.geom new.map (drafted d s.map) geom alike;
    places = λ k. ap places_or_none (used_alike s.books.geom new.map (drafted d s.map) geom alike k);
    bits = made.bits;
    whole = all_whole;
    sound = sound_kept;
    live = omega (
      arith,
      ap (λ h. length (filter new.books.marked (data_blocks h))) same_geom,
      same_count (marks_of d s.books.marked) new.books.marked (data_start s.books.geom) (s.books.geom.n - data_start s.books.geom) (λ b from. finished.marked b),
      draft_count s.books.marked d (data_start s.books.geom) (s.books.geom.n - data_start s.books.geom) fits.taken.distinct
          (λ i e low. let one = fits.taken.each i e low in record { from = one.from; below = omega (arith, one.from, one.below); out = own.unmarked _ one })
          sound.once
          (λ i e low. let one = fits.freed i e low in record { from = one.from; below = omega (arith, one.from, one.below); is = sound.freed i e low }),
    );
    held = ap (λ k. k.running.held) books ∙ draft_holds (record s.books { spare = spare }) d sound.once sound.freed;
  }

-- The draft in which a snapshot goes: it begins with frees of what the snapshot alone has, and drops its node.
use Rattle.std.proofs.Common.{◌≡◌, ◌⊎◌, inl, inr, ℕ, ◌≤◌, ◌||◌, not, Bool, true, false, IsTrue, if◌then◌else◌, List, [], ◌∷◌, ◌++◌, length, slice_get, None, Some, is_some, option_map, refl, sym, ap, ap₂, subst, ◌∙◌, arith}
use Rattle.std.proofs.lemmas.Bool.{cases_Bool, or_cases, true≢false}
use Rattle.std.proofs.lemmas.Bool.Decides.{nat_tests}
use Rattle.base_types.specs.Runs.{run_places}
use Rattle.base_types.specs.Seal.{Blocks}
use Rattle.layout_geometry.specs.Geometry.{Geometry}
use Rattle.crash_stands.specs.Files.{file_of, files_of}
use Rattle.crash_stands.specs.Sharing.{IsSoundKept}
use Rattle.crash_stands.specs.Stands.{AreSound}
use Rattle.engine_blocks.specs.Running.{has}
use Rattle.engine_blocks.specs.State.{State}
use Rattle.fs_files.specs.Calls.{files_in, places_in, places_of as blocks_of_node, places_or_none, IsUsed, IsWithFile, IsWithPlaces, SetsNode}
use Rattle.fs_files.specs.Drafts.{DraftState, ChangesSome, FreesBlocks, begun_beside, change_of}
use Rattle.fs_files.specs.Growing.{alone as unkept}
use Rattle.fs_files.specs.Nodes.{node_block}
use Rattle.fs_files.specs.Places.{place_of}
use Rattle.fs_files.specs.Shared.{is_kept}
use Rattle.fs_files.specs.Sound.{AreApartFrom, AreSoundBeside, TellsKept}
use Rattle.fs_session.specs.Commands.{places_of}
use Rattle.fs_session.specs.Snapshots.{alone_among, live_files}
use Rattle.fs_commands.specs.declared.snapping.Gone.{Gone}
use Rattle.fs_commands.specs.Snapping.{DraftsLoss, IsSnapshot, MayTake}
use Rattle.fs_commands.proofs.snapped.Answers.{NamedLaw, named_is}
use Rattle.fs_commands.proofs.unsnapped.Counts.{alone_apart, sound_without}
use Rattle.fs_commands.proofs.unsnapped.Once.{IsOnce, all_left, kept_once, no_file}

-- none of a snapshot's own blocks is kept
own_unkept : (g : Geometry) (m : Blocks) (kept : ℕ → Bool) (n : ℕ) → AreSoundBeside g kept m → IsSnapshot g m n → (b : ℕ) → has (blocks_of_node g m n) b ≡ true → kept b ≡ false
own_unkept g m kept n beside (node, used, kind) b mine = by (cases_Bool (kept b))
  where
    place : (i : ℕ) × (slice_get (run_places node.runs) i ≡ Some b)
    place = place_of (run_places node.runs) b (ap (λ o. has (places_or_none o) b) (sym used) ∙ mine)

    by : (kept b ≡ true) ⊎ (kept b ≡ false) → kept b ≡ false
    by (inl is) = absurd (no_file (sym kind ∙ beside.shared b n place.0 node is (record { node = node; is_node = used; place = place.1 }) used))
    by (inr is) = is

or_first : (a b : Bool) → (a || b) ≡ false → a ≡ false
or_first a b e = grind (arith, nat_tests)

-- blocks that are sound are so beside what snapshots keep
abbrev pub BesideLaw : Type 0
BesideLaw = (g : Geometry) (m : Blocks) (kept : ℕ → Bool) → TellsKept g kept m → AreSound g m → AreSoundBeside g kept m

module _ (tells : Bool) (s : State) (name : List ℕ) (gone : Gone) (rest : List ℕ) (may : MayTake tells s name gone rest) (named : NamedLaw) (law : BesideLaw) (told : IsTrue tells) where
  -- what goes is a snapshot
  pub goes_is : IsSnapshot s.books.geom s.map gone.number
  goes_is = let t = may.may.stands told in named_is s.books.geom s.map t.0 name t.1 named gone.number (may.goes.named told)

  pub beside_is : AreSoundBeside s.books.geom (is_kept may.counts) s.map
  beside_is = law s.books.geom s.map (is_kept may.counts) (may.may.begin.kept told) (may.may.begin.sound told)

  -- which keeps no block twice
  pub goes_once : IsOnce gone.kept.items
  goes_once = by goes_is
    where
      by : IsSnapshot s.books.geom s.map gone.number → IsOnce gone.kept.items
      by (node, used, kind) = subst IsOnce (sym (may.goes.kept told))
          (kept_once s.books.geom s.map gone.number (subst (IsSoundKept s.books.geom s.map) (sym (ap places_or_none used)) ((may.may.begin.sound told).kept gone.number node used kind)))

  alone_are : gone.alone.items ≡ alone_among may.counts (live_files s.books.geom s.map) gone.kept.items
  alone_are = may.goes.alone told

  pub begins_beside : AreSoundBeside s.books.geom (λ b. is_kept rest b || has gone.alone.items b) s.map
  begins_beside = sound_without s.books.geom s.map may.counts rest gone.kept.items gone.alone.items beside_is alone_are (may.out told)

  pub begins_apart : AreApartFrom s.books.geom s.map rest gone.alone.items
  begins_apart = alone_apart s.books.geom s.map may.counts rest gone.kept.items gone.alone.items beside_is alone_are (may.out told) goes_once

  -- its own blocks are freed too
  own_freed : unkept (is_kept rest) (places_of s gone.number) ≡ places_of s gone.number
  own_freed = all_left (λ b. not (is_kept rest b)) (places_of s gone.number) (λ b mine. ap not (or_first (is_kept rest b) (has gone.alone.items b) (own_unkept s.books.geom s.map (λ b. is_kept rest b || has gone.alone.items b) gone.number begins_beside goes_is b mine)))

  module _ (t : State) (d e : DraftState) (begun : FreesBlocks gone.alone.items (begun_beside rest) d) (same : (k : ℕ) → (files_in s d k ≡ files_of s.books.geom s.map k) × (places_in s d k ≡ blocks_of_node s.books.geom s.map k)) where
    -- it is in use in the draft
    pub goes_used : IsUsed (files_in s d) gone.number
    goes_used = by goes_is
      where
        by : IsSnapshot s.books.geom s.map gone.number → IsUsed (files_in s d) gone.number
        by (node, used, kind) = (file_of s.books.geom.layout s.map node, (same gone.number).0 ∙ ap (option_map (file_of s.books.geom.layout s.map)) used)

    unchanged : (b : ℕ) → is_some (change_of d.changed b) ≡ false
    unchanged b = ap is_some (begun.changed b) ∙ either (has gone.alone.items b)
      where
        either : (h : Bool) → is_some (if h then None else change_of (begun_beside rest).changed b) ≡ false
        either true = refl
        either false = refl

    pub lost : IsWithFile (files_in s d) (files_in t e) gone.number None → IsWithPlaces (places_in s d) (places_in t e) gone.number [] → SetsNode s.books.geom gone.number (unkept (is_kept d.kept) (places_in s d gone.number)) d e → ChangesSome e
        → DraftsLoss s t gone.number gone.alone.items e
    lost file places sets changes = record {
      file = record { own = file.own; others = λ l other. file.others l other ∙ (same l).0 };
      places = record { own = places.own; others = λ l other. places.others l other ∙ (same l).1 };
      taken = sets.taken ∙ begun.taken;
      freed = sets.freed ∙ ap₂ (λ xs ys. xs ++ ys) begun.freed (ap₂ (λ ks ps. unkept (is_kept ks) ps) begun.kept (same gone.number).1 ∙ own_freed);
      fresh = let none : length d.fresh ≤ 0 = begun.fresh_len in omega (arith, sets.fresh, none);
      only = λ b is. by b (or_cases (has (node_block s.books.geom gone.number ∷ []) b) (is_some (change_of d.changed b)) (sets.among b is));
      changes = changes;
    }
      where
        by : (b : ℕ) → (has (node_block s.books.geom gone.number ∷ []) b ≡ true) ⊎ (is_some (change_of d.changed b) ≡ true) → has (node_block s.books.geom gone.number ∷ []) b ≡ true
        by b (inl here) = here
        by b (inr there) = absurd (true≢false (sym there ∙ unchanged b))

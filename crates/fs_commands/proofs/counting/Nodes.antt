-- How many blocks of a node snapshots keep, from a count of some of its places.
use Rattle.std.proofs.Common.{◌≡◌, ℕ, ◌-◌, ◌/◌, ◌<◌, ◌≤◌, ◌==◌, List, [], length, Option, None, Some, option_map, Result, Ok, Err, IfOk, refl, sym, ap, ap₂, ◌∙◌, arith}
use Rattle.std.proofs.lemmas.Option.{none-some}
use Rattle.lang_tree.specs.Figures.{blocks_for}
use Rattle.lang_tree.specs.Sharing.{SharedPlaces, alone_from, shared_met}
use Rattle.fs_files.specs.declared.refusal.FileRefusal.{FileRefusal}
use Rattle.fs_commands.specs.Figures.{HasSize, KeepsResized, MeetsKept, kept_places}
use Rattle.fs_session.specs.Commands.{places_of}
use Rattle.fs_commands.proofs.counting.Touched.{count, kept_past, met_between}
use Rattle.layout_bytes.specs.declared.node.Node.{Node}
use Rattle.crash_stands.specs.Files.{FileNode, file_of, used_node}
use Rattle.engine_blocks.specs.State.{State}
use Rattle.fs_files.specs.Calls.{facts_of, files_in, places_in, places_or_none}
use Rattle.fs_files.specs.Drafts.{DraftState, drafted, nothing_drafted}

-- what isn't in use has no blocks
pub no_places : (s : State) (d : DraftState) (k : ℕ) → None ≡ option_map facts_of (files_in s d k) → places_in s d k ≡ []
no_places s d k none = by (used_node s.books.geom (drafted d s.map) k) refl
  where
    by : (o : Option Node) → used_node s.books.geom (drafted d s.map) k ≡ o → places_or_none (used_node s.books.geom (drafted d s.map) k) ≡ []
    by None e = ap places_or_none e
    by (Some node) e = absurd (none-some (facts_of (file_of s.books.geom.layout (drafted d s.map) node)) (none ∙ ap (λ o. option_map facts_of (option_map (file_of s.books.geom.layout (drafted d s.map)) o)) e))

module _ (s : State) (counts : List ℕ) (k : ℕ) where
  abbrev shares : SharedPlaces
  shares = kept_places counts (places_of s k)

  -- those that bytes touch
  pub meets_kept : (lo hi from n : ℕ) (r : Result ℕ FileRefusal) → from ≡ lo / 1024 → n ≡ blocks_for hi - from → ((x : FileNode) → files_in s nothing_drafted k ≡ Some x → length (places_of s k) ≡ blocks_for (length x.bytes))
      → IfOk r (λ kept. kept ≡ count shares from n) → IfOk r (MeetsKept s counts k lo hi)
  meets_kept lo hi from n (Err why) at many long is = tt
  meets_kept lo hi from n (Ok kept) at many long is = λ x there.
      is ∙ ap₂ (λ a b. count shares a b) at (many ∙ ap (λ a. blocks_for hi - a) at)
      ∙ sym (met_between lo hi shares (length x.bytes) (λ i above. kept_past counts (places_of s k) i (omega (arith, above, long x there))))

  -- those that change where it gets another size: that is a greater one, or no greater one
  pub grows_kept : (old new : ℕ) (r : Result ℕ FileRefusal) → old < new → IfOk r (MeetsKept s counts k old new) → IfOk r (λ kept. HasSize s k old → KeepsResized s counts k new kept)
  grows_kept old new (Err why) more met = tt
  grows_kept old new (Ok kept) more met = λ size. record {
    grows = λ x there less. met x there ∙ ap (λ n. shared_met shares (length x.bytes) n new) (sym (size x there));
    cuts = λ x there less. absurd (omega (arith, less, more, size x there));
  }

  pub cuts_kept : (old new from n : ℕ) (r : Result ℕ FileRefusal) → new ≤ old → from ≡ blocks_for new → n ≡ blocks_for old - from → IfOk r (λ kept. alone_from shares from n ≡ n - kept)
      → IfOk r (λ kept. HasSize s k old → KeepsResized s counts k new kept)
  cuts_kept old new from n (Err why) less at many rest = tt
  cuts_kept old new from n (Ok kept) less at many rest = λ size. record {
    grows = λ x there more. absurd (omega (arith, less, more, size x there));
    cuts = λ x there fewer.
        let long : n ≡ blocks_for (length x.bytes) - blocks_for new = many ∙ ap₂ (λ a b. blocks_for a - b) (sym (size x there)) at in
        ap (λ m. m - kept) (sym long) ∙ sym rest ∙ ap₂ (λ a b. alone_from shares a b) at long;
  }

-- The blocks of a node in use have content where a draft is sound.
use Rattle.std.proofs.Common.{◌≡◌, ◌≢◌, ℕ, ◌<◌, length, Some, get_or, subst, arith}
use Rattle.std.specs.List.{All}
use Rattle.std.proofs.lemmas.Option.{slice_get-get_or}
use Rattle.base_types.specs.Seal.{Blocks}
use Rattle.base_types.specs.Runs.{run_places}
use Rattle.layout_bytes.specs.declared.node.Node.{Node}
use Rattle.engine_blocks.specs.Puts.{IsData}
use Rattle.engine_blocks.specs.State.{Bookkeeping}
use Rattle.crash_stands.specs.Files.{used_node}
use Rattle.crash_stands.specs.Stands.{HasBlock}
use Rattle.fs_files.specs.Content.{HasContent}
use Rattle.fs_files.specs.Drafts.{DraftState, drafted}
use Rattle.fs_files.specs.Sound.{IsSoundDraft}

pub content_known : (k : Bookkeeping) (m : Blocks) (d : DraftState) (number : ℕ) (node : Node) → IsSoundDraft k m d → used_node k.geom (drafted d m) number ≡ Some node → All (IsData k.geom) (run_places node.runs) → HasContent m d (run_places node.runs)
content_known k m d number node sound used inside = record {
  whole = λ i z l. whole i z l;
  once = λ i j z l h. once i j z l h;
  apart = λ i z l. sound.apart (get_or (run_places node.runs) i z);
}
  where
    block_at : (i z : ℕ) → i < length (run_places node.runs) → HasBlock k.geom (drafted d m) number i (get_or (run_places node.runs) i z)
    block_at i z l = record { node = node; is_node = used; place = slice_get-get_or (run_places node.runs) i z l }

    whole : (i z : ℕ) → i < length (run_places node.runs) → length (drafted d m (get_or (run_places node.runs) i z)) ≡ 1024
    whole i z l =
        let place = inside i z l in
        sound.blocks.«data» (get_or (run_places node.runs) i z) place.from place.below ((sound.blocks.marked (get_or (run_places node.runs) i z) place.from place.below).1 (number, i, block_at i z l))

    once : (i j z : ℕ) → i < j → j < length (run_places node.runs) → get_or (run_places node.runs) i z ≢ get_or (run_places node.runs) j z
    once i j z l h is =
        let same = sound.blocks.own number number i j (get_or (run_places node.runs) j z) (subst (λ b. HasBlock k.geom (drafted d m) number i b) is (block_at i z (omega (arith, l, h)))) (block_at j z h) in
        absurd (omega (arith, same.1, l))

-- The image of all settled contents, as it is made block by block.
use Rattle.std.proofs.Common.{◌≡◌, inl, inr, ℕ, ◌+◌, ◌<◌, ◌≤◌, List, [], length, take, sym, ◌∙◌, ap, arith}
use Rattle.std.specs.Prelude.{slice_index_or, slice_set}
use Rattle.std.proofs.lemmas.Bool.{cases_eq}
use Rattle.std.proofs.lemmas.List.{get_or-set_same, get_or-set_other, length-set}
use Rattle.base_types.specs.Seal.{blocks_of}
use Rattle.disk_contract.specs.declared.event.Event.{Event}
use Rattle.disk_contract.specs.Cell.{cell_of}
use Rattle.disk_memory.specs.Choice.{AreBlocksOf}
use Rattle.disk_memory.specs.Settled.{IsSettledPlace, AreSettledPlaces}

-- the first blocks of an image have their settled contents, at each moment whose places these are, and the others are the base's
pub record AreSettledTo (base : List (List ℕ)) (log : List Event) (places : List ℕ) (image : List (List ℕ)) (done : ℕ) : Type 0 where
  pub size : length image ≡ length base
  pub each : (moment : ℕ) → AreSettledPlaces (length base) (take moment log) places → (b : ℕ) → b < done → blocks_of image b ≡ (cell_of (blocks_of base) (take moment log) b).settled
  pub rest : (b : ℕ) → done ≤ b → blocks_of image b ≡ blocks_of base b

-- none at first
pub image_start : (base : List (List ℕ)) (log : List Event) (places : List ℕ) (image : List (List ℕ)) → image ≡ base → AreSettledTo base log places image 0
image_start base log places image same = record { size = ap length same; each = λ moment s b none. absurd (omega arith); rest = λ b from. ap (λ (l : List (List ℕ)). blocks_of l b) same }

-- one more, once its content is set
pub image_more : (base : List (List ℕ)) (log : List Event) (places : List ℕ) (image new : List (List ℕ)) (done : ℕ) (x : List ℕ) → done < length base → new ≡ slice_set image done x
    → ((moment : ℕ) → IsSettledPlace (take moment log) done (slice_index_or places done 0) → x ≡ (cell_of (blocks_of base) (take moment log) done).settled)
    → AreSettledTo base log places image done → AreSettledTo base log places new (done + 1)
image_more base log places image new done x below set settled old = record {
  size = ap length set ∙ length-set image done x ∙ old.size;
  each = λ moment s b within. ap (λ (l : List (List ℕ)). blocks_of l b) set ∙ elim (cases_eq b done) [
    | inl same ↦ ap (blocks_of (slice_set image done x)) same ∙ get_or-set_same image done x [] (omega (arith, old.size)) ∙ settled moment (s.each done below) ∙ ap (λ k. (cell_of (blocks_of base) (take moment log) k).settled) (sym same)
    | inr apart ↦ get_or-set_other image done b x [] apart ∙ old.each moment s b (omega arith)
  ];
  rest = λ b from. ap (λ (l : List (List ℕ)). blocks_of l b) set ∙ get_or-set_other image done b x [] (λ same. omega (arith, same, from)) ∙ old.rest b (omega arith);
}

-- or where it is the base's
pub image_kept : (base : List (List ℕ)) (log : List Event) (places : List ℕ) (image : List (List ℕ)) (done : ℕ) → done < length base
    → ((moment : ℕ) → IsSettledPlace (take moment log) done (slice_index_or places done 0) → blocks_of base done ≡ (cell_of (blocks_of base) (take moment log) done).settled)
    → AreSettledTo base log places image done → AreSettledTo base log places image (done + 1)
image_kept base log places image done below settled old = record {
  size = old.size;
  each = λ moment s b within. elim (cases_eq b done) [
    | inl same ↦ ap (blocks_of image) same ∙ old.rest done (omega arith) ∙ settled moment (s.each done below) ∙ ap (λ k. (cell_of (blocks_of base) (take moment log) k).settled) (sym same)
    | inr apart ↦ old.each moment s b (omega arith)
  ];
  rest = λ b from. old.rest b (omega arith);
}

-- and in the end all
pub image_whole : (base : List (List ℕ)) (log : List Event) (places : List ℕ) (image : List (List ℕ)) (done moment : ℕ) → length base ≤ done → AreSettledTo base log places image done → AreSettledPlaces (length base) (take moment log) places
    → AreBlocksOf (length base) (λ b. (cell_of (blocks_of base) (take moment log) b).settled) image
image_whole base log places image done moment all t s = record { count = t.size; each = λ b below. t.each moment s b (omega arith) }

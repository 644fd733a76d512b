-- What records leave in a block, as the replay goes on.
use Rattle.std.proofs.Common.{◌≡◌, ℕ, suc, ◌+◌, ◌<◌, ◌≤◌, Bool, true, false, List, [], ◌∷◌, length, drop, get_or, Option, Some, None, refl, sym, ◌∙◌, ap, drop-cons, add-one, if◌then◌else◌}
use Rattle.base_types.specs.Seal.{Blocks, blocks_of}
use Rattle.layout_geometry.specs.Geometry.{Geometry}
use Rattle.layout_journal.specs.Run.{Record, payload_of, names_block, or_else, otherwise, covered_by, replayed}

-- what was left before counts as it is in the block
on_top : (g : Geometry) (img : Blocks) (b : ℕ) (rs : List Record) (before : Option (List ℕ))
    → otherwise (covered_by g img before rs b) (img b) ≡ otherwise (covered_by g img (Some (otherwise before (img b))) rs b) (img b)
on_top g img b [] before = refl
on_top g img b (r ∷ rs) before = cases (on_top g img b rs before) (payload_of g img r b) (names_block r.fresh b)
  where
    cases : otherwise (covered_by g img before rs b) (img b) ≡ otherwise (covered_by g img (Some (otherwise before (img b))) rs b) (img b)
        → (p : Option (List ℕ)) (f : Bool)
        → otherwise (covered_by g img (or_else p (if f then None else before)) rs b) (img b)
        ≡ otherwise (covered_by g img (or_else p (if f then None else Some (otherwise before (img b)))) rs b) (img b)
    cases later (Some x) f = refl
    cases later None true = refl
    cases later None false = later

-- one record more on top of the block
pub one_more : (g : Geometry) (img : Blocks) (b : ℕ) (r : Record) (rs : List Record) (cur new : List ℕ)
    → new ≡ otherwise (payload_of g img r b) (if names_block r.fresh b then img b else cur)
    → otherwise (covered_by g img (Some cur) (r ∷ rs) b) (img b) ≡ otherwise (covered_by g img (Some new) rs b) (img b)
one_more g img b r rs cur new e =
    on_top g img b rs (or_else (payload_of g img r b) (if names_block r.fresh b then None else Some cur))
    ∙ ap (λ (x : List ℕ). otherwise (covered_by g img (Some x) rs b) (img b)) (left (payload_of g img r b) (names_block r.fresh b) ∙ sym e)
  where
    left : (p : Option (List ℕ)) (f : Bool) → otherwise (or_else p (if f then None else Some cur)) (img b) ≡ otherwise p (if f then img b else cur)
    left (Some x) f = refl
    left None true = refl
    left None false = refl

-- before the first record the block is the image's
pub at_first : (g : Geometry) (img : Blocks) (b : ℕ) (rs : List Record) (cur : List ℕ) → cur ≡ img b
    → otherwise (covered_by g img (Some cur) rs b) (img b) ≡ replayed g img rs b
at_first g img b rs cur e = ap (λ (x : List ℕ). otherwise (covered_by g img (Some x) rs b) (img b)) e ∙ sym (on_top g img b rs None)

-- a step of the loop over the records
pub step : (g : Geometry) (img : Blocks) (b : ℕ) (rs : List Record) (k : ℕ) (r : Record) (cur new all : List ℕ)
    → k < length rs → r ≡ get_or rs k r
    → new ≡ otherwise (payload_of g img r b) (if names_block r.fresh b then img b else cur)
    → otherwise (covered_by g img (Some cur) (drop k rs) b) (img b) ≡ all
    → otherwise (covered_by g img (Some new) (drop (k + 1) rs) b) (img b) ≡ all
step g img b rs k r cur new all lt at e so =
    let rest : drop k rs ≡ r ∷ drop (k + 1) rs = drop-cons rs k r lt ∙ ap (λ (x : Record). x ∷ drop (suc k) rs) (sym at) ∙ ap (λ n. r ∷ drop n rs) (sym (add-one k)) in
    sym (one_more g img b r (drop (k + 1) rs) cur new e) ∙ ap (λ (l : List Record). otherwise (covered_by g img (Some cur) l b) (img b)) (sym rest) ∙ so

-- the blocks before this one are replayed, and those from it on are the image's
pub record AreReplayed (g : Geometry) (image : List (List ℕ)) (rs : List Record) (k : ℕ) (blocks : List (List ℕ)) : Type 0 where
  pub count : length blocks ≡ g.n
  pub done : (b : ℕ) → b < k → blocks_of blocks b ≡ replayed g (blocks_of image) rs b
  pub ahead : (b : ℕ) → k ≤ b → blocks_of blocks b ≡ blocks_of image b

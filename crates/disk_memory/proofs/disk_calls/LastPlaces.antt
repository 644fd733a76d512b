-- The places of blocks stay right with one event more.
use Rattle.std.proofs.Common.{◌≡◌, ℕ, zero, suc, ◌+◌, ◌<◌, ◌==◌, inl, inr, if◌then◌else◌, List, [], ◌∷◌, ◌++◌, length, slice_index_or, slice_set, Some, refl, sym, ap, subst, ◌∙◌, add-one, arith}
use Rattle.std.proofs.lemmas.Bool.{cases_eq, cond-false, cond-true, eq-eqb, ne_eqb}
use Rattle.std.proofs.lemmas.List.{length-set, get_or-set_same, get_or-set_other}
use Rattle.base_types.specs.Seal.{Blocks, blocks_of}
use Rattle.disk_contract.specs.declared.event.Event.{Event}
use Rattle.disk_contract.specs.declared.event.Event.TheVariants.{Wrote, Lost, Noticed}
use Rattle.disk_contract.specs.Cell.{accepted}
use Rattle.disk_contract.specs.Logs.{accepted_from-append as accepted_behind}
use Rattle.disk_memory.specs.MemDisk.{IsLast, AreLast}
use Rattle.disk_memory.proofs.log_rows.Events.{get_before, get_next}

-- a place stays right where the last accepted bytes stay
place_stays : (base : Blocks) (log : List Event) (e : Event) (b place : ℕ) → accepted base (log ++ e ∷ []) b ≡ accepted base log b → IsLast base log b place → IsLast base (log ++ e ∷ []) b place
place_stays base log e b zero same is = is ∙ sym same
place_stays base log e b (suc place) same is = (is.0, get_before log (e ∷ []) place _ is.1 ∙ ap (λ x. Some (Wrote is.0 b x)) (sym same))

-- the place of a new write is that of its block
own_place : (base : Blocks) (log : List Event) (t b : ℕ) (x : List ℕ) → IsLast base (log ++ Wrote t b x ∷ []) b (length log + 1)
own_place base log t b x =
    subst (IsLast base (log ++ Wrote t b x ∷ []) b) (sym (add-one (length log)))
    (t, get_next log (Wrote t b x) [] ∙ ap (λ y. Some (Wrote t b y)) (sym (accepted_behind b (base b) log (Wrote t b x ∷ []) ∙ cond-true (b == b) _ _ (eq-eqb b b refl))))

-- after a write that is accepted
pub last_wrote : (base : List (List ℕ)) (log : List Event) (places : List ℕ) (t b : ℕ) (x : List ℕ) → b < length base → AreLast base log places
    → AreLast base (log ++ Wrote t b x ∷ []) (slice_set places b (length log + 1))
last_wrote base log places t b x low are = record {
  size = length-set places b (length log + 1) ∙ are.size;
  each = λ c within. elim (cases_eq c b) [
    | inl same ↦ subst (λ d. IsLast (blocks_of base) more d (slice_index_or (slice_set places b (length log + 1)) d 0)) (sym same)
        (subst (IsLast (blocks_of base) more b) (sym (get_or-set_same places b (length log + 1) 0 (omega (arith, are.size)))) (own_place (blocks_of base) log t b x))
    | inr apart ↦ subst (IsLast (blocks_of base) more c) (sym (get_or-set_other places b c (length log + 1) 0 apart))
        (place_stays (blocks_of base) log (Wrote t b x) c _ (accepted_behind c (blocks_of base c) log (Wrote t b x ∷ []) ∙ cond-false (b == c) _ _ (ne_eqb b c (λ e. apart (sym e)))) (are.each c within))
  ];
}
  where
    more : List Event
    more = log ++ Wrote t b x ∷ []

-- after a write that is lost
pub last_lost : (base : List (List ℕ)) (log : List Event) (places : List ℕ) (b : ℕ) (x : List ℕ) → AreLast base log places → AreLast base (log ++ Lost b x ∷ []) places
last_lost base log places b x are = record {
  size = are.size;
  each = λ c within. place_stays (blocks_of base) log (Lost b x) c _ (accepted_behind c (blocks_of base c) log (Lost b x ∷ [])) (are.each c within);
}

-- after a notice
pub last_noticed : (base : List (List ℕ)) (log : List Event) (places : List ℕ) (t : ℕ) → AreLast base log places → AreLast base (log ++ Noticed t ∷ []) places
last_noticed base log places t are = record {
  size = are.size;
  each = λ c within. place_stays (blocks_of base) log (Noticed t) c _ (accepted_behind c (blocks_of base c) log (Noticed t ∷ [])) (are.each c within);
}

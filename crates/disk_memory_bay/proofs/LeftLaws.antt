-- What each call of a disk makes of its last accepted bytes: a write changes those of its block, and nothing
-- else changes any.
use Rattle.std.proofs.Common.{◌≡◌, ⊎_elim, ℕ, ◌<◌, ◌^◌, ◌==◌, Bool, true, false, if◌then◌else◌, List, [], ◌∷◌, ◌++◌, length, slice_set, Option, Some, None, Result, Ok, Err, refl, sym, ◌∙◌, ap, subst, length-set, get_or-set_same, get_or-set_other}
use Rattle.std.proofs.lemmas.Bool.{cases_eq, cond-true, cond-false, eq-eqb, ne_eqb}
use Rattle.base_types.specs.Seal.{Blocks, blocks_of}
use Rattle.disk_contract.specs.declared.event.Event.{Event}
use Rattle.disk_contract.specs.declared.event.Event.TheVariants.{Wrote, Lost, Noticed}
use Rattle.disk_contract.specs.Bay.{IsLeftBy}
use Rattle.disk_contract.specs.Cell.{accepted, accepted_from, notices}
use Rattle.disk_contract.specs.Disk.{State, AddsWrite, AddsPoll, AddsNotices}
use Rattle.disk_contract.specs.Lawful.{IsSoundDisk, IsBlock, AreEventsOf, IsLogOf}
use Rattle.disk_contract.specs.declared.bay.Mark.{Mark}
use Rattle.disk_contract.specs.Logs.{accepted_from-append}
use Rattle.disk_memory_bay.specs.Shelves.{IsSoundHeld}
use Rattle.disk_memory.specs.MemDisk.{MemDiskState, state_of}

module _ (old new : State) (image : List (List ℕ)) (size : new.blocks ≡ old.blocks) (base : new.base ≡ old.base) where
  -- where the last accepted bytes are the same, the image stays
  left_same : ((b : ℕ) → accepted old.base new.log b ≡ accepted old.base old.log b) → IsLeftBy old image → IsLeftBy new image
  left_same same left = record {
    length = left.length ∙ sym size;
    each = λ b low. left.each b (subst (λ n. b < n) size low) ∙ sym (same b) ∙ ap (λ (bs : Blocks). accepted bs new.log b) (sym base);
  }

  -- as it does where the log is the same
  pub left_still : new.log ≡ old.log → IsLeftBy old image → IsLeftBy new image
  left_still log = left_same (λ b. ap (λ (es : List Event). accepted old.base es b) log)

  -- events that are no accepted write
  left_more : (es : List Event) → ((b : ℕ) (x : List ℕ) → accepted_from b x es ≡ x) → new.log ≡ old.log ++ es → IsLeftBy old image → IsLeftBy new image
  left_more es quiet log = left_same (λ b. ap (λ (all : List Event). accepted old.base all b) log ∙ accepted_from-append b (old.base b) old.log es ∙ quiet b (accepted old.base old.log b))

  quiet_notices : (ts : List ℕ) (b : ℕ) (x : List ℕ) → accepted_from b x (notices ts) ≡ x
  quiet_notices [] b x = refl
  quiet_notices (t ∷ ts) b x = quiet_notices ts b x

  -- a write that failed
  pub left_lost : {E : Type 0} (b : ℕ) (x : List ℕ) (e : E) → AddsWrite {E = E} b x (Err e) old.log new.log → IsLeftBy old image → IsLeftBy new image
  left_lost b x e adds left = ⊎_elim (λ same. left_still same left) (λ more. left_more (Lost b x ∷ []) (λ c y. refl) more left) adds

  -- a write that was accepted
  pub left_wrote : (b t : ℕ) (x : List ℕ) → b < old.blocks → new.log ≡ old.log ++ Wrote t b x ∷ [] → IsLeftBy old image → IsLeftBy new (slice_set image b x)
  left_wrote b t x there log left = record {
    length = length-set image b x ∙ left.length ∙ sym size;
    each = λ c low. ⊎_elim
        (λ same. at c same ∙ sym (after c (cond-true (b == c) _ _ (eq-eqb b c (sym same)))))
        (λ apart. get_or-set_other image b c x [] apart ∙ left.each c (subst (λ n. c < n) size low) ∙ sym (after c (cond-false (b == c) _ _ (ne_eqb b c (λ is. apart (sym is))))))
        (cases_eq c b);
  }
    where
      at : (c : ℕ) → c ≡ b → blocks_of (slice_set image b x) c ≡ x
      at c same = subst (λ n. blocks_of (slice_set image b x) n ≡ x) (sym same) (get_or-set_same image b x [] (subst (λ n. b < n) (sym left.length) there))

      after : (c : ℕ) {y : List ℕ} → (if b == c then x else accepted old.base old.log c) ≡ y → accepted new.base new.log c ≡ y
      after c is = ap (λ (bs : Blocks). accepted bs new.log c) base ∙ ap (λ (all : List Event). accepted old.base all c) log ∙ accepted_from-append c (old.base c) old.log (Wrote t b x ∷ []) ∙ is

  -- a poll
  pub left_poll : {E : Type 0} (r : Result (Option ℕ) E) → AddsPoll r old.log new.log → IsLeftBy old image → IsLeftBy new image
  left_poll (Ok None) adds left = left_still adds left
  left_poll (Ok (Some t)) adds left = left_more (Noticed t ∷ []) (λ c y. refl) adds.1 left
  left_poll (Err e) adds left = left_still adds left

  -- a wait
  pub left_wait : AddsNotices old.log new.log → IsLeftBy old image → IsLeftBy new image
  left_wait adds left = left_more (notices adds.tickets) (quiet_notices adds.tickets) adds.log left

-- the last accepted bytes are those of a block
accepted_blocks : (n b : ℕ) (x : List ℕ) (es : List Event) → IsBlock x → AreEventsOf n es → IsBlock (accepted_from b x es)
accepted_blocks n b x [] is all = is
accepted_blocks n b x (Wrote t c y ∷ es) is all = accepted_blocks n b (if c == b then y else x) es (one (c == b)) all.1
  where
    one : (test : Bool) → IsBlock (if test then y else x)
    one true = all.0.2
    one false = is
accepted_blocks n b x (Lost c y ∷ es) is all = accepted_blocks n b x es is all.1
accepted_blocks n b x (Noticed t ∷ es) is all = accepted_blocks n b x es is all.1

-- what a sound disk leaves are blocks
pub left_blocks : (s : State) (image : List (List ℕ)) → IsSoundDisk s → IsLeftBy s image → (b : ℕ) → b < length image → IsBlock (blocks_of image b)
left_blocks s image sound left b low =
    let there : b < s.blocks = subst (λ n. b < n) left.length low in
    subst IsBlock (sym (left.each b there)) (accepted_blocks s.blocks b (s.base b) s.log (sound.blocks b there) sound.log.events)

module _ (d e : MemDiskState) (image : List (List ℕ)) (base : e.base ≡ d.base) where
  blocks_same : length e.base ≡ length d.base
  blocks_same = ap (λ (bs : List (List ℕ)). length bs) base

  base_same : blocks_of e.base ≡ blocks_of d.base
  base_same = ap (λ (bs : List (List ℕ)). blocks_of bs) base

  pub disk_lost : {E : Type 0} (b : ℕ) (x : List ℕ) (why : E) → AddsWrite {E = E} b x (Err why) d.log e.log → IsLeftBy (state_of d) image → IsLeftBy (state_of e) image
  disk_lost b x why = left_lost (state_of d) (state_of e) image blocks_same base_same b x why

  pub disk_wrote : (b t : ℕ) (x : List ℕ) → b < length d.base → e.log ≡ d.log ++ Wrote t b x ∷ [] → IsLeftBy (state_of d) image → IsLeftBy (state_of e) (slice_set image b x)
  disk_wrote b t x there log = left_wrote (state_of d) (state_of e) image blocks_same base_same b t x there log

  pub disk_poll : {E : Type 0} (r : Result (Option ℕ) E) → AddsPoll r d.log e.log → IsLeftBy (state_of d) image → IsLeftBy (state_of e) image
  disk_poll r = left_poll (state_of d) (state_of e) image blocks_same base_same r

  pub disk_wait : AddsNotices d.log e.log → IsLeftBy (state_of d) image → IsLeftBy (state_of e) image
  disk_wait = left_wait (state_of d) (state_of e) image blocks_same base_same

-- what a sound disk leaves, held with it, is sound
pub left_sound : (d last : MemDiskState) (image : List (List ℕ)) (marks : List Mark) → last ≡ d → IsSoundDisk (state_of d) → IsLeftBy (state_of d) image → length image < 2 ^ 32 → IsSoundHeld (record { image = image; last = Some last; marks = marks })
left_sound d last image marks is sound left short =
    subst (λ (l : MemDiskState). IsSoundHeld (record { image = image; last = Some l; marks = marks })) (sym is)
    (record {
      kept = record {
        image = left_blocks (state_of d) image sound left;
        base = λ b low. sound.blocks b (subst (λ n. b < n) left.length low);
        log = subst (λ n. IsLogOf n d.log) (sym left.length) sound.log;
      };
      short = short;
    })

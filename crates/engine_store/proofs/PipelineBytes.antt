-- What stands for the live blocks of the last map by the pipeline and the disk: a call that only waits leaves it, and so does the cache go on agreeing with the disk.
use Rattle.std.proofs.Common.{◌≡◌, ◌⊎◌, inl, ⊎_elim, ℕ, zero, suc, ◌+◌, ◌<◌, ◌==◌, Bool, true, false, if◌then◌else◌, List, [], ◌∷◌, ◌++◌, drop, Option, Some, None, IfSome, Contains, refl, sym, ◌∙◌, ap, arith}
use Rattle.std.specs.Prelude.{IsSome}
use Rattle.std.specs.FinMap.{get}
use Rattle.std.proofs.lemmas.List.Elements.{Contains-push_cases, Contains-append_cases}
use Rattle.base_types.specs.Seal.{Blocks}
use Rattle.disk_contract.specs.declared.event.Event.{Event}
use Rattle.disk_contract.specs.declared.event.Event.TheVariants.{Wrote, Lost, Noticed}
use Rattle.disk_contract.specs.Cell.{accepted, accepted_from, is_lost, is_lost_from, notices}
use Rattle.disk_contract.specs.Disk.{State, Reads, SameDisk, writes_in}
use Rattle.layout_journal.specs.Ring.{RingPlaces}
use Rattle.layout_journal.specs.Run.{or_else, otherwise}
use Rattle.crash_argument.specs.HomeTest.{is_one_of}
use Rattle.crash_argument.specs.Ledger.{Ledger}
use Rattle.crash_argument.specs.Points.{MountedSession}
use Rattle.engine_cache.specs.Cache.{Cache, IsKept, IsTheDisks}
use Rattle.engine_running.specs.Rows.{put_of}
use Rattle.engine_reuse.specs.Dead.{DeadBlocks}
use Rattle.engine_checkpoint.specs.declared.pipeline.Pipeline.{Pipeline}
use Rattle.engine_checkpoint.specs.Adds.{LosesFront}
use Rattle.engine_checkpoint.specs.Advance.{IsRightOn}
use Rattle.engine_checkpoint.specs.Bytes.{bytes_now, LeavesBytes}
use Rattle.engine_checkpoint.specs.Kept.{Kept, kept, newest_after, newest_in}
use Rattle.engine_checkpoint.specs.Waits.{OnlyNotices}
use Rattle.engine_store.proofs.LastMap.{NoneIsLost}

-- Notices write nothing.

accepted_noticed : (b : ℕ) (x : List ℕ) (log : List Event) (ts : List ℕ) → accepted_from b x (log ++ notices ts) ≡ accepted_from b x log
accepted_noticed b x [] [] = refl
accepted_noticed b x [] (t ∷ ts) = accepted_noticed b x [] ts
accepted_noticed b x (Wrote t c y ∷ log) ts = accepted_noticed b (if c == b then y else x) log ts
accepted_noticed b x (Lost c y ∷ log) ts = accepted_noticed b x log ts
accepted_noticed b x (Noticed t ∷ log) ts = accepted_noticed b x log ts

lost_noticed : (b : ℕ) (lost : Bool) (log : List Event) (ts : List ℕ) → is_lost_from b lost (log ++ notices ts) ≡ is_lost_from b lost log
lost_noticed b lost [] [] = refl
lost_noticed b lost [] (t ∷ ts) = lost_noticed b lost [] ts
lost_noticed b lost (Wrote t c y ∷ log) ts = lost_noticed b (if c == b then false else lost) log ts
lost_noticed b lost (Lost c y ∷ log) ts = lost_noticed b (if c == b then true else lost) log ts
lost_noticed b lost (Noticed t ∷ log) ts = lost_noticed b lost log ts

pub writes_noticed : (log : List Event) (ts : List ℕ) → writes_in (log ++ notices ts) ≡ writes_in log
writes_noticed [] [] = refl
writes_noticed [] (t ∷ ts) = writes_noticed [] ts
writes_noticed (Wrote t c y ∷ log) ts = ap (λ n. 1 + n) (writes_noticed log ts)
writes_noticed (Lost c y ∷ log) ts = ap (λ n. 1 + n) (writes_noticed log ts)
writes_noticed (Noticed t ∷ log) ts = writes_noticed log ts

no_write : (ts : List ℕ) (t b : ℕ) (x : List ℕ) → ¬ Contains (notices ts) (Wrote t b x)
no_write [] t b x there = let lt : there.0 < 0 = there.1 in omega (arith, lt)
no_write (u ∷ ts) t b x there = ⊎_elim (λ first. ⊎_elim (λ none. let lt = none.1 in omega (arith, lt)) (λ same. cc same) (Contains-push_cases [] (Noticed u) (Wrote t b x) first))
    (λ behind. no_write ts t b x behind) (Contains-append_cases (Noticed u ∷ []) (notices ts) (Wrote t b x) there)

-- a call that adds notices alone, and keeps the records
pub bytes_noticed : NoneIsLost → (s : MountedSession) (l : Ledger) (t floor : ℕ) (v w : Pipeline) (ring : RingPlaces) (dead : DeadBlocks) (taken : List ℕ) (d e : State) → IsRightOn s d l t floor v ring dead taken → SameDisk d e → OnlyNotices d.log e.log → kept w ≡ kept v → LeavesBytes l v w d e
bytes_noticed calm s l t floor v w ring dead taken d e right disk adds same = record {
  more = notices adds.tickets;
  log = adds.log;
  bytes = λ b live. ap (λ ks. otherwise (newest_in None ks b) (accepted e.base e.log b)) same ∙ ap (otherwise (newest_in None (kept v) b)) (still b);
  wrote = λ u b x there live. absurd (no_write adds.tickets u b x there);
  calm = λ b live none. ap (is_lost b) adds.log ∙ lost_noticed b false d.log adds.tickets ∙ calm d.base d.log l v ring dead.waiting taken b right.safe.keeps right.agrees live;
}
  where
    still : (b : ℕ) → accepted e.base e.log b ≡ accepted d.base d.log b
    still b = ap (λ (m : Blocks). accepted m e.log b) disk.base ∙ ap (λ es. accepted d.base es b) adds.log ∙ accepted_noticed b (d.base b) d.log adds.tickets

-- A block without a newest payload gets none as records leave.

one_step : (before : Option (List ℕ)) (u : Bool) (y : Option (List ℕ)) (v : Bool) → ((if u then None else or_else y (if v then None else None)) ≡ (if u then None else or_else y (if v then None else before))) ⊎ ((if u then None else or_else y (if v then None else None)) ≡ None)
one_step before u y v = grind arith

newest_step : (before : Option (List ℕ)) (k : Kept) (b : ℕ) → (newest_after None k b ≡ newest_after before k b) ⊎ (newest_after None k b ≡ None)
newest_step before k b = one_step before (is_one_of b k.freed) (put_of b k.payloads) (is_one_of b k.fresh)

none_from : (before : Option (List ℕ)) (ks : List Kept) (b : ℕ) → newest_in before ks b ≡ None → newest_in None ks b ≡ None
none_from before [] b none = refl
none_from before (k ∷ ks) b none = ⊎_elim (λ same. ap (λ o. newest_in o ks b) same ∙ none)
    (λ gone. ap (λ o. newest_in o ks b) gone ∙ none_from (newest_after before k b) ks b none) (newest_step before k b)

none_behind : (n : ℕ) (ks : List Kept) (b : ℕ) → newest_in None ks b ≡ None → newest_in None (drop n ks) b ≡ None
none_behind zero ks b none = none
none_behind (suc n) [] b none = none
none_behind (suc n) (k ∷ ks) b none = none_behind n ks b (none_from (newest_after None k b) ks b none)

pub still_none : (v w : Pipeline) (b : ℕ) → LosesFront (kept v) (kept w) → newest_in None (kept v) b ≡ None → newest_in None (kept w) b ≡ None
still_none v w b front none = ap (λ ks. newest_in None ks b) front.rest ∙ none_behind front.count (kept v) b none

-- The cache.

-- what a read may give of a block may be read still, where neither before nor after a record has a payload of it
reads_still : (v w : Pipeline) (d e : State) (b : ℕ) (x : List ℕ) → is_lost b d.log ≡ false → newest_in None (kept v) b ≡ None → newest_in None (kept w) b ≡ None → bytes_now w e.base e.log b ≡ bytes_now v d.base d.log b → Reads d b x → Reads e b x
reads_still v w d e b x calm none then_none bytes r = record { calm = λ c. is; one = ∣ inl is ∣₁ }
  where
    is : x ≡ accepted e.base e.log b
    is = r.calm calm ∙ ap (λ o. otherwise o (accepted d.base d.log b)) (sym none) ∙ sym bytes ∙ ap (λ o. otherwise o (accepted e.base e.log b)) then_none

mapped : (o : Option (List ℕ)) (P Q : List ℕ → Type 0) → (IsSome o → (x : List ℕ) → P x → Q x) → IfSome o P → IfSome o Q
mapped None P Q f h = h
mapped (Some x) P Q f h = f refl x h

-- so a block that the cache keeps is kept as the disk has it still
pub cache_still : (v w : Pipeline) (d e : State) (c : Cache) (b : ℕ) → LosesFront (kept v) (kept w) → is_lost b d.log ≡ false → (IsKept b c → newest_in None (kept v) b ≡ None) → bytes_now w e.base e.log b ≡ bytes_now v d.base d.log b → IsTheDisks b c d → IsTheDisks b c e
cache_still v w d e c b front calm none bytes is = mapped (get c.kept b) (Reads d b) (Reads e b) (λ there x r. reads_still v w d e b x calm (none there) (still_none v w b front (none there)) bytes r) is

-- The record that a commit gave the pipeline is the last of its committed ones, so the cache forgets that record's blocks.
use Rattle.std.proofs.Common.{◌≡◌, ℕ, ◌+◌, ◌<◌, List, [], ◌∷◌, ◌++◌, length, map, refl, sym, ◌∙◌, ap, arith, append_assoc}
use Rattle.std.proofs.lemmas.List.{map_push}
use mathlib.Core.Path.{subst₂}
use Rattle.engine_cache.specs.Cache.{Cache}
use Rattle.layout_journal.specs.declared.header.Header.{Header}
use Rattle.layout_journal.specs.Ring.{RingPlaces}
use Rattle.engine_running.specs.declared.commit.Committed.{Committed}
use Rattle.engine_running.specs.declared.put.Put.{Put}
use Rattle.engine_running.specs.Record.{block_of}
use Rattle.engine_checkpoint.specs.declared.pipeline.Pipeline.{Pipeline}
use Rattle.engine_checkpoint.specs.Kept.{Kept, kept, of_committed, of_durable, of_sure}
use Rattle.engine_checkpoint.specs.Order.{IsInOrder}
use Rattle.engine_books.specs.Books.{TransactionBooks}
use Rattle.engine_store.specs.Committing.{BecomesRecord, kept_of}
use Rattle.engine_store.specs.Syncing.{Forgets}
use Rattle.engine_store.proofs.NextRecord.{numbers_len}

-- a list with its last element apart
record EndsWith {A : Type 0} (xs : List A) : Type 0 where
  before : List A
  last : A
  is : xs ≡ before ++ last ∷ []

ends_with : {A : Type 0} (x : A) (xs : List A) → EndsWith (x ∷ xs)
ends_with x [] = record { before = []; last = x; is = refl }
ends_with x (y ∷ ys) = let e = ends_with y ys in record { before = x ∷ e.before; last = e.last; is = ap (λ zs. x ∷ zs) e.is }

ends_where_some : {A : Type 0} (xs : List A) → 0 < length xs → EndsWith xs
ends_where_some [] some = absurd (omega (arith, some))
ends_where_some (x ∷ xs) some = ends_with x xs

-- two lists that are the same end with the same element
last_or : {A : Type 0} → A → List A → A
last_or x [] = x
last_or x (y ∷ ys) = last_or y ys

last_is : {A : Type 0} (d x : A) (xs : List A) → last_or d (xs ++ x ∷ []) ≡ x
unfolding last_or
last_is d x [] = refl
last_is d x (y ∷ ys) = last_is y x ys

same_last : {A : Type 0} (x y : A) (xs ys : List A) → xs ++ x ∷ [] ≡ ys ++ y ∷ [] → x ≡ y
same_last x y xs ys e = sym (last_is x x xs) ∙ ap (last_or x) e ∙ last_is x y ys

module _ (number : ℕ) (v w : TransactionBooks) (p q : Pipeline) (ring : RingPlaces) (b : BecomesRecord number v w p q ring) (order : IsInOrder p) (next : number ≡ p.last + 1) where
  -- one record more is committed
  one_more : length q.committed.items ≡ length p.committed.items + 1
  one_more = omega (arith, numbers_len p, numbers_len q, order.last, b.sound.order.last, b.last, next, b.durable, ap (λ (h : Header). h.start) b.header)

  last_record : EndsWith q.committed.items
  last_record = ends_where_some q.committed.items (omega (arith, one_more))

  -- it is the transaction's
  is_the_last : of_committed last_record.last ≡ kept_of number v.changes
  is_the_last = same_last (of_committed last_record.last) (kept_of number v.changes) (map of_sure q.sure.items ++ (map of_durable q.durable.items ++ map of_committed last_record.before)) (kept p) (sym in_a_row ∙ b.kept)
    where
      in_a_row : kept q ≡ (map of_sure q.sure.items ++ (map of_durable q.durable.items ++ map of_committed last_record.before)) ++ of_committed last_record.last ∷ []
      in_a_row =
          ap (λ (ks : List Kept). map of_sure q.sure.items ++ (map of_durable q.durable.items ++ ks)) (ap (map of_committed) last_record.is ∙ map_push of_committed last_record.before last_record.last)
          ∙ ap (λ (ks : List Kept). map of_sure q.sure.items ++ ks) (sym (append_assoc (map of_durable q.durable.items) (map of_committed last_record.before) (of_committed last_record.last ∷ [])))
          ∙ sym (append_assoc (map of_sure q.sure.items) (map of_durable q.durable.items ++ map of_committed last_record.before) (of_committed last_record.last ∷ []))

  -- so its blocks are forgotten
  pub forgets_record : (old new : Cache) → ((before : List Committed) (last : Committed) → q.committed.items ≡ before ++ last ∷ [] → Forgets last.payloads.items last.fresh.items old new) → Forgets v.changes.paid (map block_of v.changes.laid) old new
  forgets_record old new forgets =
      subst₂ (λ (puts : List Put) (fresh : List ℕ). Forgets puts fresh old new) (ap (λ (k : Kept). k.payloads) is_the_last) (ap (λ (k : Kept). k.fresh) is_the_last) (forgets last_record.before last_record.last last_record.is)

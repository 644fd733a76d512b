-- From the commit block to the candidate, and from the candidate to the record that may come.
use Rattle.std.proofs.Common.{◌≡◌, ℕ, ◌+◌, List, length, take, drop, sym, ◌∙◌, ap, subst, arith, take-append-drop, length-take}
use Rattle.base_types.specs.Seal.{Blocks}
use Rattle.layout_journal.specs.declared.header.Header.{Header}
use Rattle.layout_journal.specs.declared.record.Commit.{Commit}
use Rattle.layout_journal.specs.declared.entry.Entry.{Entry}
use Rattle.layout_journal.specs.Layout.{descriptor_count}
use Rattle.layout_journal.specs.Run.{Record, places, commit_says}
use Rattle.crash_record.specs.Found.{IsOnly, IsDescribed, HasCommit}
use Rattle.crash_record.specs.Laws.{DescriptionLaws}
use Rattle.engine_recover.specs.Candidate.{IsCandidate, CommitMayCome}

-- the one record that has P, where Q says more than P
module _ (P Q : Record → Type 0) (less : (r : Record) → Q r → P r) (n p : ℕ) where
  pub narrow : (r : Record) → IsOnly P n p r → Q r → IsOnly Q n p r
  narrow r only has = record { is_number = only.is_number; is_place = only.is_place; has = has; alone = λ q num at x. only.alone q num at (less q x) }

  pub narrow_not : (r : Record) → IsOnly P n p r → (Q r → ⊥) → (q : Record) → q.number ≡ n → q.place ≡ p → ¬ Q q
  narrow_not r only bad q num at x = bad (subst Q (only.alone q num at (less q x)) x)

  pub narrow_none : ((q : Record) → q.number ≡ n → q.place ≡ p → ¬ P q) → (q : Record) → q.number ≡ n → q.place ≡ p → ¬ Q q
  narrow_none none q num at x = none q num at (less q x)

module _ (img : Blocks) (h : Header) (left number place : ℕ) (laws : DescriptionLaws img h number place) where
  -- where the commit block shuts its record out, there is no candidate
  pub shut_out : (c : Commit) → HasCommit img h number place c → (CommitMayCome h left c → ⊥) → (q : Record) → q.number ≡ number → q.place ≡ place → ¬ IsCandidate img h left q
  shut_out c has shut q num at x = shut (subst (CommitMayCome h left) (laws.commit_is c q has at x.described) (record { let_in = x.let_in; within = x.within }))

  -- else the record that is described is one
  pub comes : (c : Commit) (r : Record) → HasCommit img h number place c → CommitMayCome h left c → IsOnly (IsDescribed img h) number place r → IsOnly (IsCandidate img h left) number place r
  comes c r has lets only =
      let may : CommitMayCome h left (commit_says h.epoch r) = subst (CommitMayCome h left) (sym (laws.commit_is c r has only.is_place only.has)) lets in
      narrow (IsDescribed img h) (IsCandidate img h left) (λ q x. x.described) number place r only (record { described = only.has; let_in = may.let_in; within = may.within })

-- its places, on any disk
pub places_are : (c : Commit) (es : List Entry) (r : Record) (n p : ℕ) → length es ≡ c.payloads + c.fresh → c.descriptors ≡ descriptor_count (c.payloads + c.fresh)
    → r ≡ record { number = n; place = p; payloads = take c.payloads es; fresh = drop c.payloads es } → places r ≡ 1 + c.descriptors + c.payloads
places_are c es r n p count few is =
    let whole = ap (λ (l : List Entry). descriptor_count (length l)) (take-append-drop c.payloads es) ∙ ap descriptor_count count in
    let own = length-take c.payloads es in
    ap places is ∙ omega (arith, whole, few, own, count)

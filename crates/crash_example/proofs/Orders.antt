-- Writes that are made in an order, with notices between them.
use Rattle.std.proofs.Common.{◌≡◌, ◌⊎◌, inl, inr, ⊎_elim, ℕ, List, [], ◌∷◌, ◌++◌, Result, Ok, Err, IsErr, refl, sym, ◌∙◌, ap, subst, append_assoc, append-nil}
use Rattle.std.proofs.lemmas.Bool.{false≢true}
use Rattle.disk_contract.specs.declared.event.Event.{Event}
use Rattle.disk_contract.specs.declared.event.Event.TheVariants.{Wrote, Lost, Noticed}
use Rattle.disk_contract.specs.declared.disk.DiskFault.{DiskFault}
use Rattle.disk_contract.specs.Cell.{notices}
use Rattle.disk_contract.specs.Disk.{AddsWrite, AddsNotices}
use Rattle.crash_argument.specs.Opening.{AddsWaited}
use Rattle.crash_example.specs.OneRecord.{accepted_in, lost_in, AddsAmidNotices, AddsPrefix, AddsInOrder}

accepted-append : (xs ys : List Event) → accepted_in (xs ++ ys) ≡ accepted_in xs ++ accepted_in ys
accepted-append [] ys = refl
accepted-append (Wrote t b x ∷ xs) ys = ap (λ (l : List (ℕ × List ℕ)). (b, x) ∷ l) (accepted-append xs ys)
accepted-append (Lost b x ∷ xs) ys = accepted-append xs ys
accepted-append (Noticed t ∷ xs) ys = accepted-append xs ys

lost-append : (xs ys : List Event) → lost_in (xs ++ ys) ≡ lost_in xs ++ lost_in ys
lost-append [] ys = refl
lost-append (Wrote t b x ∷ xs) ys = lost-append xs ys
lost-append (Lost b x ∷ xs) ys = ap (λ (l : List (ℕ × List ℕ)). (b, x) ∷ l) (lost-append xs ys)
lost-append (Noticed t ∷ xs) ys = lost-append xs ys

accepted_notices : (ts : List ℕ) → accepted_in (notices ts) ≡ []
accepted_notices [] = refl
accepted_notices (t ∷ ts) = accepted_notices ts

lost_notices : (ts : List ℕ) → lost_in (notices ts) ≡ []
lost_notices [] = refl
lost_notices (t ∷ ts) = lost_notices ts

-- nothing so far
pub amid_none : (log : List Event) → AddsAmidNotices [] [] log log
amid_none log = record { more = []; log = sym (append-nil log); are_accepted = refl; are_lost = refl }

-- one behind the other
pub amid_then : (vs ls ws ms : List (ℕ × List ℕ)) (a b c : List Event) → AddsAmidNotices vs ls a b → AddsAmidNotices ws ms b c → AddsAmidNotices (vs ++ ws) (ls ++ ms) a c
amid_then vs ls ws ms a b c one two = record {
  more = one.more ++ two.more;
  log = two.log ∙ ap (λ (l : List Event). l ++ two.more) one.log ∙ append_assoc a one.more two.more;
  are_accepted = accepted-append one.more two.more ∙ ap (λ (l : List (ℕ × List ℕ)). l ++ accepted_in two.more) one.are_accepted ∙ ap (λ (l : List (ℕ × List ℕ)). vs ++ l) two.are_accepted;
  are_lost = lost-append one.more two.more ∙ ap (λ (l : List (ℕ × List ℕ)). l ++ lost_in two.more) one.are_lost ∙ ap (λ (l : List (ℕ × List ℕ)). ls ++ l) two.are_lost;
}

-- an accepted write
pub amid_wrote : (b t : ℕ) (x : List ℕ) (old new : List Event) → AddsWrite {E = DiskFault} b x (Ok t) old new → AddsAmidNotices ((b, x) ∷ []) [] old new
amid_wrote b t x old new adds = record { more = Wrote t b x ∷ []; log = adds.2; are_accepted = refl; are_lost = refl }

-- a wait
pub amid_noticed : (old new : List Event) → AddsNotices old new → AddsAmidNotices [] [] old new
amid_noticed old new adds = record { more = notices adds.tickets; log = adds.log; are_accepted = accepted_notices adds.tickets; are_lost = lost_notices adds.tickets }

-- a write and a wait
pub amid_waited : (b : ℕ) (x : List ℕ) (old new : List Event) → AddsWaited b x old new → AddsAmidNotices ((b, x) ∷ []) [] old new
amid_waited b x old new w = amid_then ((b, x) ∷ []) [] [] [] old (old ++ Wrote w.ticket b x ∷ []) new (record { more = Wrote w.ticket b x ∷ []; log = refl; are_accepted = refl; are_lost = refl }) (amid_noticed _ new w.waited)

-- a write that wasn't accepted
prefix_one : (b : ℕ) (x : List ℕ) (old new : List Event) → (new ≡ old) ⊎ (new ≡ old ++ Lost b x ∷ []) → AddsPrefix ((b, x) ∷ []) old new
prefix_one b x old new a = record {
  front = [];
  rest = (b, x) ∷ [];
  split = refl;
  ends = ⊎_elim (λ same. inl (subst (AddsAmidNotices [] [] old) (sym same) (amid_none old))) (λ lost. inr ((b, x), [], refl, record { more = Lost b x ∷ []; log = lost; are_accepted = refl; are_lost = refl })) a;
}

-- one that failed
pub prefix_write : (b : ℕ) (x : List ℕ) (e : DiskFault) (old new : List Event) → AddsWrite b x (Err e) old new → AddsPrefix ((b, x) ∷ []) old new
prefix_write b x e old new adds = prefix_one b x old new adds

-- or where the wait behind it failed
pub prefix_durable : (b : ℕ) (x : List ℕ) (old new : List Event) → (new ≡ old) ⊎ (new ≡ old ++ Lost b x ∷ []) ⊎ AddsWaited b x old new → AddsPrefix ((b, x) ∷ []) old new
prefix_durable b x old new adds = ⊎_elim (λ same. prefix_one b x old new (inl same)) (λ more. ⊎_elim (λ lost. prefix_one b x old new (inr lost)) waited more) adds
  where
    waited : AddsWaited b x old new → AddsPrefix ((b, x) ∷ []) old new
    waited w = record { front = (b, x) ∷ []; rest = []; split = refl; ends = inl (amid_waited b x old new w) }

-- only waits, where all that came before was accepted
pub prefix_all : (ws : List (ℕ × List ℕ)) (old new : List Event) → AddsAmidNotices ws [] old new → AddsPrefix ws old new
prefix_all ws old new a = record { front = ws; rest = []; split = sym (append-nil ws); ends = inl a }

-- a prefix behind others, and of more
pub prefix_behind : (vs ws us : List (ℕ × List ℕ)) (a b c : List Event) → AddsAmidNotices vs [] a b → AddsPrefix ws b c → AddsPrefix (vs ++ (ws ++ us)) a c
prefix_behind vs ws us a b c one p = record {
  front = vs ++ p.front;
  rest = p.rest ++ us;
  split = ap (λ (l : List (ℕ × List ℕ)). vs ++ (l ++ us)) p.split ∙ ap (λ (l : List (ℕ × List ℕ)). vs ++ l) (append_assoc p.front p.rest us) ∙ sym (append_assoc vs p.front (p.rest ++ us));
  ends = ⊎_elim (λ quiet. inl (amid_then vs [] p.front [] a b c one quiet))
      (λ lost. inr (lost.0, lost.1 ++ us, ap (λ (l : List (ℕ × List ℕ)). l ++ us) lost.2, amid_then vs [] p.front (lost.0 ∷ []) a b c one lost.3)) p.ends;
}

-- where a call failed, a prefix is what is asked for
pub in_order_failed : {T : Type 0} (ws : List (ℕ × List ℕ)) (r : Result T DiskFault) (old new : List Event) → IsErr r → AddsPrefix ws old new → AddsInOrder ws r old new
in_order_failed ws (Ok done) old new e p = absurd (false≢true e)
in_order_failed ws (Err f) old new e p = p

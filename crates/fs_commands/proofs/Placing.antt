-- Blocks of nodes before and after: each node has the first of its own, or all of them and others behind.
use Rattle.std.proofs.Common.{⊎_elim, ◌≡◌, ◌≢◌, ℕ, ◌≤◌, min, List, [], ◌++◌, length, take, refl, sym, ap, ◌∙◌, subst, arith}
use Rattle.std.proofs.Math.Seq.{take-append_seam}
use Rattle.std.proofs.lemmas.Bool.{cases_eq}
use Rattle.std.proofs.lemmas.List.{append-nil, length-take, take_all, take_min, take-append-le, take-take}
use Rattle.fs_files.specs.Calls.{IsWithPlaces}
use Rattle.layout_extent.specs.Renew.{renew}
use Rattle.lang_tree.specs.Sharing.{SharedNodes, SharedPlaces, none_shared}
use Rattle.fs_session.specs.NothingKept.{behind_all, behind_placed, placed_behind, renews_nothing}
use Rattle.fs_session.specs.Space.{ArePlaced, none_renewed}

-- what is the first of a list is so by its own length
pub front : (xs zs : List ℕ) (n : ℕ) → xs ≡ take n zs → xs ≡ take (length xs) zs
front xs zs n is =
    let long : length xs ≡ min n (length zs) = ap (λ (ys : List ℕ). length ys) is ∙ length-take n zs in
    is ∙ sym (take_min n zs) ∙ ap (λ i. take i zs) (sym long)

pub own_front : (ps more : List ℕ) → ps ≡ take (length ps) (ps ++ more)
own_front ps more = sym (take-append_seam ps more)

pub cut_front : (n : ℕ) (ps more : List ℕ) → take n ps ≡ take (length (take n ps)) (ps ++ more)
cut_front n ps more =
    front (take n ps) ps n refl ∙ sym (take-append-le (length (take n ps)) ps more (omega (arith, length-take n ps)))

pub grown_front : (ps more : List ℕ) → ps ++ more ≡ take (length (ps ++ more)) (ps ++ more)
grown_front ps more = sym (take_all (length (ps ++ more)) (ps ++ more) (omega arith))

-- one node has
pub placed_by : (old new : ℕ → List ℕ) (k : ℕ) (ps more : List ℕ) → IsWithPlaces old new k ps → ps ≡ take (length ps) (old k ++ more) → ArePlaced none_renewed old new more
placed_by old new k ps more w is = placed_behind old new more (λ l. ⊎_elim
    (λ e. subst (λ n. new n ≡ take (length (new n)) (old n ++ more)) (sym e) (subst (λ (qs : List ℕ). qs ≡ take (length qs) (old k ++ more)) (sym w.own) is))
    (λ d. subst (λ (qs : List ℕ). qs ≡ take (length qs) (old l ++ more)) (sym (w.others l d)) (own_front (old l) more)) (cases_eq l k))

-- it keeps the first of its own, and it has others behind all of its own
pub placed_cut : (old new : ℕ → List ℕ) (k n : ℕ) (more : List ℕ) → IsWithPlaces old new k (take n (old k)) → ArePlaced none_renewed old new more
placed_cut old new k n more w = placed_by old new k (take n (old k)) more w (cut_front n (old k) more)

pub placed_grown : (old new : ℕ → List ℕ) (k : ℕ) (more : List ℕ) → IsWithPlaces old new k (old k ++ more) → ArePlaced none_renewed old new more
placed_grown old new k more w = placed_by old new k (old k ++ more) more w (grown_front (old k) more)

-- it has the blocks that it had
pub placed_kept : (old new : ℕ → List ℕ) (k : ℕ) (more : List ℕ) → IsWithPlaces old new k (old k) → ArePlaced none_renewed old new more
placed_kept old new k more w = placed_by old new k (old k) more w (own_front (old k) more)

-- One change behind another: the second one takes none.
pub placed_then : (old mid new : ℕ → List ℕ) (more : List ℕ) → ArePlaced none_renewed old mid more → ArePlaced none_renewed mid new [] → ArePlaced none_renewed old new more
placed_then old mid new more first second = placed_behind old new more (λ k.
    let all = old k ++ more in
    let of_mid : new k ≡ take (length (new k)) (mid k) = behind_placed mid new [] second k ∙ ap (λ (xs : List ℕ). take (length (new k)) xs) (append-nil (mid k)) in
    let within : length (new k) ≤ length (mid k) = omega (arith, ap (λ (xs : List ℕ). length xs) of_mid, length-take (length (new k)) (mid k)) in
    of_mid ∙ ap (λ (xs : List ℕ). take (length (new k)) xs) (behind_placed old mid more first k) ∙ take-take (length (new k)) (length (mid k)) all within)

-- One node has new blocks where places of it are renewed, and behind all.
pub placed_renewed : (renewed : SharedNodes) (old new : ℕ → List ℕ) (k : ℕ) (more : List ℕ) → new k ≡ renew (renewed k) 0 (old k) more → ((l : ℕ) → l ≢ k → new l ≡ old l) → ((l : ℕ) → l ≢ k → renewed l ≡ none_shared) → ArePlaced renewed old new more
placed_renewed renewed old new k more own others none l = ⊎_elim
    (λ e. subst (λ n. new n ≡ take (length (new n)) (renew (renewed n) 0 (old n) more)) (sym e) (front (new k) (renew (renewed k) 0 (old k) more) (length (renew (renewed k) 0 (old k) more)) (own ∙ sym (take_all (length (renew (renewed k) 0 (old k) more)) (renew (renewed k) 0 (old k) more) (omega arith)))))
    (λ d. subst (λ (qs : List ℕ). qs ≡ take (length qs) (renew (renewed l) 0 (old l) more)) (sym (others l d)) (own_front (old l) more ∙ ap (take (length (old l))) (sym (ap (λ (r : SharedPlaces). renew r 0 (old l) more) (none l d) ∙ behind_all 0 (old l) more)))) (cases_eq l k)

-- Where none are new, whatever is renewed.
pub placed_without : (renewed : SharedNodes) (old new : ℕ → List ℕ) → ArePlaced none_renewed old new [] → ArePlaced renewed old new []
placed_without renewed old new placed k = placed k ∙ ap (take (length (new k))) (renews_nothing none_shared 0 (old k) ∙ sym (renews_nothing (renewed k) 0 (old k)))

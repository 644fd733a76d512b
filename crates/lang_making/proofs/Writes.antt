-- A file without bytes gets them piece by piece.
use Rattle.std.proofs.Common.{◌≡◌, ℕ, zero, suc, ◌+◌, ◌*◌, ◌/◌, ◌-◌, ◌≤◌, ◌<◌, ◌==◌, Bool, true, false, List, [], ◌++◌, length, map, replicate, take, drop, Some, None, refl, sym, ap, ap₂, ◌∙◌, subst, arith, append-nil, if◌then◌else◌, take_all, take-add, eqb-true, add-one}
use Rattle.std.proofs.lemmas.List.{take-append-le, drop_all, length-append, length-take, length-take-le, nil_from_length}
use Rattle.std.proofs.Math.Nat.{mul-suc}
use Rattle.std.specs.Cmp.{nat_cmp_total}
use Rattle.std.specs.FinMap.{nat_cmp-IsAntisymmetric, get, insert}
use Rattle.std.specs.List.{range_with_len}
use Rattle.lang_tree.specs.declared.command.Cmd.{Cmd}
use Rattle.lang_tree.specs.declared.command.Cmd.TheVariants.{Write}
use Rattle.lang_tree.specs.declared.command.Reply.TheVariants.{Ok as Done}
use Rattle.lang_tree.specs.Tree.{Tree, File, IsSound}
use Rattle.lang_tree.specs.Step.{Session, step, answered, changed_to, written, with_bytes, edited, edited_at}
use Rattle.lang_making.specs.Making.{writing}
use Rattle.lang_making.proofs.Maps.{put_at, put_beside}
use Rattle.lang_making.proofs.Walks.{nothing_refuses_write}
use Rattle.lang_making.proofs.Steps.{Does, StepsKeepSound, Wrote, with_tree, sound_after, answers_done, wrote_nothing, wrote_more}

-- bytes behind all that there are
behind : (xs ys : List ℕ) → written (length xs) ys xs ≡ xs ++ ys
behind xs ys =
    ap₂ (λ front back. front ++ (ys ++ back))
    (take-append-le (length xs) xs (replicate (length xs - length xs) 0) (omega arith) ∙ take_all (length xs) xs (omega arith))
    (drop_all (length xs + length ys) xs (omega arith))
    ∙ ap (λ back. xs ++ back) (append-nil ys)

-- the tree after a change of the bytes of the file at a path
changed_bytes : (t : Tree) (p : List (List ℕ)) (n : ℕ) (xs ys : List ℕ) (change : List ℕ → List ℕ) → get t.names p ≡ Some n → get t.nodes n ≡ Some (File xs) → change xs ≡ ys
    → edited t p change ≡ record t { nodes = insert t.nodes n (File ys) }
changed_bytes t p n xs ys change at file is =
    ap (edited_at t change) at
    ∙ ap (λ x. record t { nodes = with_bytes t.nodes n change x }) file
    ∙ ap (λ ys. record t { nodes = insert t.nodes n (File ys) }) is

module _ (keeps : StepsKeepSound) (p : List (List ℕ)) (j : ℕ) where
  -- What one command leaves that is done and gives the file these bytes.
  abbrev OneWrite : Session → Cmd → List ℕ → Type 0
  OneWrite s cmd bytes = (next : Session) × (step s cmd ≡ (next, Done)) × Wrote s next j bytes

  one_write : (s : Session) (xs ys : List ℕ) → IsSound s.limit.nodes s.tree → get s.tree.names p ≡ Some j → get s.tree.nodes j ≡ Some (File xs) → length xs + length ys ≤ 1073741824
      → OneWrite s (Write p (length xs) ys) (xs ++ ys)
  one_write s xs ys ok at file fits = by (length ys == 0) refl
    where
      done : step s (Write p (length xs) ys) ≡ answered s (Write p (length xs) ys) None
      done = answers_done s (Write p (length xs) ys) (nothing_refuses_write s.limit s.tree ok p j (length xs) (length ys) xs at file fits)

      by : (b : Bool) → (length ys == 0) ≡ b → OneWrite s (Write p (length xs) ys) (xs ++ ys)
      by true is =
          let none : ys ≡ [] = nil_from_length ys (eqb-true (length ys) 0 is) in (
            s,
            done ∙ ap (λ b. if b then (s, Done) else changed_to s (edited s.tree p (written (length xs) ys))) is,
            wrote_nothing s j (xs ++ ys) ok (file ∙ ap (λ l. Some (File l)) (sym (ap (λ l. xs ++ l) none ∙ append-nil xs))),
          )
      by false is =
          let new : Tree = record s.tree { nodes = insert s.tree.nodes j (File (xs ++ ys)) } in
          let so : step s (Write p (length xs) ys) ≡ (with_tree s new, Done) =
          done ∙ ap (λ b. if b then (s, Done) else changed_to s (edited s.tree p (written (length xs) ys))) is
          ∙ ap (changed_to s) (changed_bytes s.tree p j xs (xs ++ ys) (written (length xs) ys) at file (behind xs ys)) in (
            with_tree s new,
            so,
            record {
              limit = refl;
              names = refl;
              snapshots = refl;
              here = put_at nat_cmp_total nat_cmp-IsAntisymmetric s.tree.nodes j (File (xs ++ ys)) j refl;
              others = λ k apart. put_beside nat_cmp_total nat_cmp-IsAntisymmetric s.tree.nodes j (File (xs ++ ys)) k apart;
              sound = sound_after keeps s (Write p (length xs) ys) new ok so;
            },
          )

  module _ (size : ℕ) (bytes : List ℕ) (small : length bytes ≤ 1073741824) where
    next_end : (i : ℕ) → size * (i + 1) ≡ size * i + size
    next_end i = ap (λ n. size * n) (add-one i) ∙ mul-suc size i

    abbrev piece : ℕ → Cmd
    piece i = Write p (size * i) (take size (drop (size * i) bytes))

    one_piece : (s : Session) (i : ℕ) → size * i ≤ length bytes → IsSound s.limit.nodes s.tree → get s.tree.names p ≡ Some j → get s.tree.nodes j ≡ Some (File (take (size * i) bytes))
        → OneWrite s (piece i) (take (size * (i + 1)) bytes)
    one_piece s i within ok at file =
        let front : List ℕ = take (size * i) bytes in
        let back : List ℕ = take size (drop (size * i) bytes) in
        let long : length front ≡ size * i = length-take-le (size * i) bytes within in
        let joined : front ++ back ≡ take (size * (i + 1)) bytes = sym (take-add (size * i) size bytes) ∙ ap (λ n. take n bytes) (sym (next_end i)) in
        let fits : length front + length back ≤ 1073741824 =
        omega (arith, small, length-append front back, ap length joined, length-take (size * (i + 1)) bytes) in
        let w = one_write s front back ok at file fits in
        (w.0, subst (λ n. step s (Write p n back) ≡ (w.0, Done)) long w.1, subst (Wrote s w.0 j) joined w.2)

    pieces_done : (count i : ℕ) (s : Session) → ((k : ℕ) → i ≤ k → k < i + count → size * k ≤ length bytes) → IsSound s.limit.nodes s.tree → get s.tree.names p ≡ Some j
        → get s.tree.nodes j ≡ Some (File (take (size * i) bytes))
        → (e : Session) × Does s (map piece (range_with_len i count)) e × Wrote s e j (take (size * (i + count)) bytes)
    pieces_done zero i s within ok at file =
        let same : i ≡ i + 0 = omega arith in
        (s, refl, wrote_nothing s j (take (size * (i + 0)) bytes) ok (file ∙ ap (λ n. Some (File (take (size * n) bytes))) same))
    pieces_done (suc count) i s within ok at file =
        let one = one_piece s i (within i (omega arith) (omega arith)) ok at file in
        let rest = pieces_done count (i + 1) one.0 (λ k low high. within k (omega (arith, low)) (omega (arith, high))) one.2.sound (ap (λ names. get names p) one.2.names ∙ at) one.2.here in
        let same : (i + 1) + count ≡ i + suc count = omega arith in (
          rest.0,
          (one.0, one.1, rest.1),
          subst (λ n. Wrote s rest.0 j (take (size * n) bytes)) same (wrote_more s one.0 rest.0 j (take (size * (i + 1)) bytes) (take (size * ((i + 1) + count)) bytes) one.2 rest.2),
        )

  -- all bytes of a file
  pub bytes_done : (bytes : List ℕ) (s : Session) → length bytes ≤ 1073741824 → IsSound s.limit.nodes s.tree → get s.tree.names p ≡ Some j → get s.tree.nodes j ≡ Some (File [])
      → (e : Session) × Does s (writing p bytes) e × Wrote s e j bytes
  bytes_done bytes s small ok at file =
      let all = pieces_done 65536 bytes small ((length bytes + 65535) / 65536) 0 s (λ k low high. omega (arith, high)) ok at file in
      let whole : take (65536 * (0 + (length bytes + 65535) / 65536)) bytes ≡ bytes = take_all (65536 * (0 + (length bytes + 65535) / 65536)) bytes (omega arith) in
      (all.0, all.1, subst (Wrote s all.0 j) whole all.2)

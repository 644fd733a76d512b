-- The second part of the commands gives each file its bytes, and what they leave is the tree with other numbers.
use Rattle.std.proofs.Common.{◌≡◌, ℕ, ◌==◌, true, false, List, [], ◌∷◌, ◌++◌, Option, Some, None, option_and_then, option_map, if◌then◌else◌, find as first, refl, sym, ap, ◌∙◌, subst, ◌⊎◌, inl, inr, append_assoc, append-nil, eq-eqb}
use Rattle.std.proofs.lemmas.Bool.{cases_eq, ne_eqb}
use Rattle.std.proofs.lemmas.Option.{same_Some, none-some}
use Rattle.std.specs.List.{flat_map}
use Rattle.std.specs.FinMap.{get, empty}
use Rattle.lang_tree.specs.Tree.{Tree, Thing, Dir, File, IsSound, HasSmallFiles}
use Rattle.lang_tree.specs.Walk.{is_same_node, content, bytes_in}
use Rattle.lang_tree.specs.Step.{Session}
use Rattle.lang_making.specs.Making.{paths_made, first_alike, is_path, writing, byte_commands}
use Rattle.lang_making.specs.Renumbered.{IsRenumberedBy, DifferInNumbers}
use Rattle.lang_making.proofs.Lists.{In, Apart, Finds, finds, in_left, in_middle, in_push}
use Rattle.lang_making.proofs.Maps.{path_total, path_same, ties, differs}
use Rattle.lang_making.proofs.Order.{Fits, Ordered, all_made}
use Rattle.lang_making.proofs.Numbers.{number_of, met_as, met_number, number_met}
use Rattle.lang_making.proofs.Walks.{thing_there}
use Rattle.lang_making.proofs.Steps.{Does, StepsKeepSound, Wrote, does_join}
use Rattle.lang_making.proofs.Writes.{bytes_done}
use Rattle.lang_making.proofs.Paths.{Made, emptied, same_node, node_same, true_false}

-- What a session is in which all paths of a tree are made, and node n has come to `now n`.
pub record Stands (t : Tree) (ms : List ℕ) (now : ℕ → Option Thing) (s : Session) : Type 0 where
  pub sound : IsSound s.limit.nodes s.tree
  pub bare : s.tree.snapshots ≡ empty
  pub names : (p : List (List ℕ)) → get s.tree.names p ≡ option_map (number_of ms) (get t.names p)
  pub nodes : (k : ℕ) → get s.tree.nodes k ≡ option_and_then now (met_as ms k)

-- What is met of a tree: each node once, and all that have paths.
pub record HasMet (t : Tree) (ms : List ℕ) : Type 0 where
  pub once : Apart ms
  pub met : (n : ℕ) → In ms n → (p : List (List ℕ)) × (get t.names p ≡ Some n)
  pub there : (p : List (List ℕ)) (n : ℕ) → get t.names p ≡ Some n → In ms n

-- Which nodes have their bytes: those that a path in front leads to, and no others.
pub record IsFilled (t : Tree) (done : List (List (List ℕ))) (now : ℕ → Option Thing) : Type 0 where
  pub full : (p : List (List ℕ)) (n : ℕ) → In done p → get t.names p ≡ Some n → now n ≡ get t.nodes n
  pub blank : (n : ℕ) → ((p : List (List ℕ)) → In done p → get t.names p ≡ Some n → ⊥) → now n ≡ emptied (get t.nodes n)

module _ (most : ℕ) (t : Tree) (ok : IsSound most t) where
  abbrev paths : List (List (List ℕ))
  paths = paths_made t.names

  -- all is made: the second part can begin
  module _ (ms : List ℕ) (s : Session) (made : Made t ([] ∷ paths) ms s) where
    made_in : (p : List (List ℕ)) (n : ℕ) → get t.names p ≡ Some n → In ([] ∷ paths) p
    made_in p n at = all_made most t ok p n at

    pub all_met : HasMet t ms
    all_met = record {
      once = made.once;
      met = λ n e. let r = made.met n e in (r.0, r.2);
      there = λ p n at. made.there p n (made_in p n at) at;
    }

    made_names : (p : List (List ℕ)) → get s.tree.names p ≡ option_map (number_of ms) (get t.names p)
    made_names p = by (get t.names p) refl (get s.tree.names p) refl
      where
        by : (o : Option ℕ) → get t.names p ≡ o → (u : Option ℕ) → get s.tree.names p ≡ u → get s.tree.names p ≡ option_map (number_of ms) (get t.names p)
        by (Some n) is u so = made.names p (made_in p n is)
        by None is None so = so ∙ sym (ap (option_map (number_of ms)) is)
        by None is (Some k) so = made.names p (made.only p k so)

    pub begins : Stands t ms (λ n. emptied (get t.nodes n)) s
    begins = record { sound = made.sound; bare = made.bare; names = made_names; nodes = made.nodes }

  -- the root is a directory, and so nothing is missing in it
  pub root_filled : IsFilled t ([] ∷ []) (λ n. emptied (get t.nodes n))
  root_filled = record { full = full; blank = λ n none. refl }
    where
      full : (p : List (List ℕ)) (n : ℕ) → In ([] ∷ []) p → get t.names p ≡ Some n → emptied (get t.nodes n) ≡ get t.nodes n
      full p n (inl root) at =
          let one : 1 ≡ n = same_Some 1 n (sym ok.root ∙ ap (get t.names) (sym root) ∙ at) in
          let dir : get t.nodes n ≡ Some Dir = ap (get t.nodes) (sym one) ∙ ok.root_dir in
          ap emptied dir ∙ sym dir
      full p n (inr e) at = absurd e

  -- one node more has its bytes
  abbrev with_full : ℕ → (ℕ → Option Thing) → ℕ → Option Thing
  with_full n now m = if m == n then get t.nodes n else now m

  full_here : (n m : ℕ) (now : ℕ → Option Thing) → m ≡ n → with_full n now m ≡ get t.nodes n
  full_here n m now e = ap (λ b. if b then get t.nodes n else now m) (eq-eqb m n e)

  full_beside : (n m : ℕ) (now : ℕ → Option Thing) → (m ≡ n → ⊥) → with_full n now m ≡ now m
  full_beside n m now apart = ap (λ b. if b then get t.nodes n else now m) (ne_eqb m n apart)

  module _ (done : List (List (List ℕ))) (now : ℕ → Option Thing) (filled : IsFilled t done now) (p : List (List ℕ)) (n : ℕ) (at : get t.names p ≡ Some n) where
    -- where its node has them already
    filled_again : now n ≡ get t.nodes n → IsFilled t (done ++ p ∷ []) now
    filled_again is = record {
      full = λ q m e there. by q m there (in_push done p q e);
      blank = λ m none. filled.blank m (λ q e. none q (in_left done (p ∷ []) q e));
    }
      where
        by : (q : List (List ℕ)) (m : ℕ) → get t.names q ≡ Some m → In done q ⊎ (q ≡ p) → now m ≡ get t.nodes m
        by q m there (inl e) = filled.full q m e there
        by q m there (inr same) =
            let number : n ≡ m = same_Some n m (sym at ∙ ap (get t.names) (sym same) ∙ there) in
            subst (λ m. now m ≡ get t.nodes m) number is

    filled_more : IsFilled t (done ++ p ∷ []) (with_full n now)
    filled_more = record {
      full = λ q m e there. by q m there (cases_eq m n) (in_push done p q e);
      blank = λ m none. full_beside n m now (λ same. none p (in_middle done [] p) (at ∙ ap Some (sym same))) ∙ filled.blank m (λ q e. none q (in_left done (p ∷ []) q e));
    }
      where
        by : (q : List (List ℕ)) (m : ℕ) → get t.names q ≡ Some m → (m ≡ n) ⊎ (m ≡ n → ⊥) → In done q ⊎ (q ≡ p) → with_full n now m ≡ get t.nodes m
        by q m there (inl same) e = full_here n m now same ∙ ap (get t.nodes) (sym same)
        by q m there (inr apart) (inl e) = full_beside n m now apart ∙ filled.full q m e there
        by q m there (inr apart) (inr same) = absurd (apart (same_Some m n (sym there ∙ ap (get t.names) same ∙ at)))

  -- One path's commands.
  module _ (keeps : StepsKeepSound) (small : HasSmallFiles t.nodes) (ms : List ℕ) (met : HasMet t ms) where
    -- What the commands of a path leave.
    record Turns (done : List (List (List ℕ))) (p : List (List ℕ)) (s : Session) : Type 0 where
      next : Session
      now : ℕ → Option Thing
      does : Does s (byte_commands t paths p) next
      limit : next.limit ≡ s.limit
      stands : Stands t ms now next
      filled : IsFilled t (done ++ p ∷ []) now

    wrote_stands : (now : ℕ → Option Thing) (n : ℕ) (bytes : List ℕ) (s e : Session) → Stands t ms now s → In ms n → get t.nodes n ≡ Some (File bytes) → Wrote s e (number_of ms n) bytes
        → Stands t ms (with_full n now) e
    wrote_stands now n bytes s e st there is w = record {
      sound = w.sound;
      bare = w.snapshots ∙ st.bare;
      names = λ p. ap (λ names. get names p) w.names ∙ st.names p;
      nodes = λ k. by k (cases_eq k (number_of ms n));
    }
      where
        other : (k : ℕ) → (k ≡ number_of ms n → ⊥) → (o : Option ℕ) → met_as ms k ≡ o → option_and_then now o ≡ option_and_then (with_full n now) o
        other k apart None so = refl
        other k apart (Some m) so = sym (full_beside n m now (λ same. apart (sym (number_met ms k m met.once so).0 ∙ ap (number_of ms) same)))

        by : (k : ℕ) → (k ≡ number_of ms n) ⊎ (k ≡ number_of ms n → ⊥) → get e.tree.nodes k ≡ option_and_then (with_full n now) (met_as ms k)
        by k (inl same) =
            ap (get e.tree.nodes) same ∙ w.here
            ∙ sym (ap (option_and_then (with_full n now)) (ap (met_as ms) same ∙ met_number ms n met.once there) ∙ full_here n n now refl ∙ is)
        by k (inr apart) = w.others k apart ∙ st.nodes k ∙ other k apart (met_as ms k) refl

    module _ (front left : List (List (List ℕ))) (p : List (List ℕ)) (split : paths ≡ front ++ p ∷ left) (fits : Fits t.names ([] ∷ front) p) (now : ℕ → Option Thing) (s : Session)
        (st : Stands t ms now s) (filled : IsFilled t ([] ∷ front) now) where
      number_there : In ms fits.number
      number_there = met.there p fits.number fits.at

      -- a path in front led to its node
      later_path : (q : List (List ℕ)) → In front q → is_same_node t p q ≡ true → first_alike t paths p ≡ Some q → Turns ([] ∷ front) p s
      later_path q there same found =
          let other : q ≡ p → ⊥ = λ e. fits.fresh (subst (In ([] ∷ front)) e (inr there)) in
          let none : byte_commands t paths p ≡ [] =
          ap (λ o. if is_path p o then writing p (content t p) else []) found ∙ ap (λ b. if b then writing p (content t p) else []) (differs path_total path_same q p other) in
          let at = node_same t p q fits.number fits.at same in
          record {
            next = s;
            now = now;
            does = subst (λ l. Does s l s) (sym none) refl;
            limit = refl;
            stands = st;
            filled = filled_again ([] ∷ front) now filled p fits.number fits.at (filled.full q fits.number (inr there) at);
          }

      module _ (none : (q : List (List ℕ)) → In front q → is_same_node t p q ≡ false) (found : first_alike t paths p ≡ Some p) where
        asked : (bytes : List ℕ) → content t p ≡ bytes → byte_commands t paths p ≡ writing p bytes
        asked bytes is =
            ap (λ o. if is_path p o then writing p (content t p) else []) found ∙ ap (λ b. if b then writing p (content t p) else []) (ties path_total path_same p p refl)
            ∙ ap (writing p) is

        -- what is first there has nothing yet, and the root isn't it
        nothing_yet : (fits.number ≡ 1 → ⊥) → now fits.number ≡ emptied (get t.nodes fits.number)
        nothing_yet apart = filled.blank fits.number by
          where
            by : (q : List (List ℕ)) → In ([] ∷ front) q → get t.names q ≡ Some fits.number → ⊥
            by q (inl root) at = apart (sym (same_Some 1 fits.number (sym ok.root ∙ ap (get t.names) (sym root) ∙ at)))
            by q (inr there) at = true_false (is_same_node t p q) (same_node t p q fits.number fits.at at) (none q there)

        first_dir : get t.nodes fits.number ≡ Some Dir → Turns ([] ∷ front) p s
        first_dir is =
            let no_root : fits.number ≡ 1 → ⊥ = λ e. fits.fresh (inl (ok.one_path fits.number p [] is fits.at (ok.root ∙ ap Some (sym e)))) in
            let empty_list : byte_commands t paths p ≡ [] = asked [] (ap bytes_in (thing_there t p fits.number Dir fits.at is)) in
            record {
              next = s;
              now = now;
              does = subst (λ l. Does s l s) (sym empty_list) refl;
              limit = refl;
              stands = st;
              filled = filled_again ([] ∷ front) now filled p fits.number fits.at (nothing_yet no_root ∙ ap emptied is ∙ sym is);
            }

        first_file : (bytes : List ℕ) → get t.nodes fits.number ≡ Some (File bytes) → Turns ([] ∷ front) p s
        first_file bytes is =
            let no_root : fits.number ≡ 1 → ⊥ = λ e. dir_file bytes (sym ok.root_dir ∙ ap (get t.nodes) (sym e) ∙ is) in
            let asks : byte_commands t paths p ≡ writing p bytes = asked bytes (ap bytes_in (thing_there t p fits.number (File bytes) fits.at is)) in
            let at : get s.tree.names p ≡ Some (number_of ms fits.number) = st.names p ∙ ap (option_map (number_of ms)) fits.at in
            let file : get s.tree.nodes (number_of ms fits.number) ≡ Some (File []) =
            st.nodes (number_of ms fits.number) ∙ ap (option_and_then now) (met_number ms fits.number met.once number_there) ∙ nothing_yet no_root ∙ ap emptied is in
            let w = bytes_done keeps p (number_of ms fits.number) bytes s (small fits.number bytes is) st.sound at file in
            record {
              next = w.0;
              now = with_full fits.number now;
              does = subst (λ l. Does s l w.0) (sym asks) w.1;
              limit = w.2.limit;
              stands = wrote_stands now fits.number bytes s w.0 st number_there is w.2;
              filled = filled_more ([] ∷ front) now filled p fits.number fits.at;
            }
          where
            dir_file : (bytes : List ℕ) → Some Dir ≡ Some (File bytes) → ⊥
            dir_file bytes e = cc

        first_path : Turns ([] ∷ front) p s
        first_path = let x = ok.named p fits.number fits.at in by x.0 x.1
          where
            by : (x : Thing) → get t.nodes fits.number ≡ Some x → Turns ([] ∷ front) p s
            by Dir is = first_dir is
            by (File bytes) is = first_file bytes is

      turn : Turns ([] ∷ front) p s
      turn = which (finds (is_same_node t p) front left p (same_node t p p fits.number fits.at fits.at))
        where
          which : Finds (is_same_node t p) front p left → Turns ([] ∷ front) p s
          which (inl r) = later_path r.0 r.1 r.2 (ap (first (is_same_node t p)) split ∙ r.3)
          which (inr r) = first_path r.0 (ap (first (is_same_node t p)) split ∙ r.1)

    -- all of them
    pub fill_all : (front left : List (List (List ℕ))) (now : ℕ → Option Thing) (s : Session) → paths ≡ front ++ left → Ordered t.names ([] ∷ front) left → Stands t ms now s
        → IsFilled t ([] ∷ front) now
        → (e : Session) × (done : ℕ → Option Thing) × Does s (flat_map (byte_commands t paths) left) e × Stands t ms done e × IsFilled t ([] ∷ paths) done
    fill_all front [] now s split order st filled = (s, now, refl, st, subst (λ l. IsFilled t ([] ∷ l) now) (sym (split ∙ append-nil front)) filled)
    fill_all front (p ∷ left) now s split order st filled =
        let one = turn front left p split order.0 now s st filled in
        let rest = fill_all (front ++ p ∷ []) left one.now one.next (split ∙ sym (append_assoc front (p ∷ []) left)) order.1 one.stands one.filled in
        (rest.0, rest.1, does_join s one.next rest.0 (byte_commands t paths p) (flat_map (byte_commands t paths) left) one.does rest.2, rest.3, rest.4)

    -- The end.

    module _ (now : ℕ → Option Thing) (e : Session) (st : Stands t ms now e) (filled : IsFilled t ([] ∷ paths) now) where
      all_full : (n : ℕ) → In ms n → now n ≡ get t.nodes n
      all_full n there = let r = met.met n there in filled.full r.0 n (all_made most t ok r.0 n r.1) r.1

      node_there : (n : ℕ) (x : Thing) → get t.nodes n ≡ Some x → In ms n
      node_there n x is = let r = ok.reached n x is in met.there r.0 n r.1

      one_number : (m n : ℕ) → In ms m → In ms n → number_of ms m ≡ number_of ms n → m ≡ n
      one_number m n a b same = same_Some m n (sym (met_number ms m met.once a) ∙ ap (met_as ms) same ∙ met_number ms n met.once b)

      same_nodes : (n : ℕ) (x : Thing) → get t.nodes n ≡ Some x → get e.tree.nodes (number_of ms n) ≡ Some x
      same_nodes n x is =
          let there = node_there n x is in
          st.nodes (number_of ms n) ∙ ap (option_and_then now) (met_number ms n met.once there) ∙ all_full n there ∙ is

      no_more_nodes : (k : ℕ) (x : Thing) → get e.tree.nodes k ≡ Some x → (n : ℕ) × (get t.nodes n ≡ Some x) × (number_of ms n ≡ k)
      no_more_nodes k x is = by (met_as ms k) refl
        where
          by : (o : Option ℕ) → met_as ms k ≡ o → (n : ℕ) × (get t.nodes n ≡ Some x) × (number_of ms n ≡ k)
          by None so = absurd (none-some x (sym (st.nodes k ∙ ap (option_and_then now) so) ∙ is))
          by (Some n) so =
              let r = number_met ms k n met.once so in
              (n, sym (all_full n r.1) ∙ sym (st.nodes k ∙ ap (option_and_then now) so) ∙ is, r.0)

      renumbered : IsRenumberedBy (number_of ms) t e.tree
      renumbered = record {
        root = same_Some (number_of ms 1) 1 (sym (st.names [] ∙ ap (option_map (number_of ms)) ok.root) ∙ st.sound.root);
        one_to_one = λ m n x y a b same. one_number m n (node_there m x a) (node_there n y b) same;
        names = st.names;
        nodes = same_nodes;
        all = no_more_nodes;
      }

      pub differ : DifferInNumbers t e.tree
      differ = (number_of ms, renumbered)

-- A command on the tree in its room: what is done spends what its figures say, and what is refused leaves all as it was. Over blocks in memory that is the session's room; over any others one that came back.
use Rattle.std.proofs.Common.{◌≡◌, ◌≢◌, ◌⊎◌, inl, inr, ℕ, ◌-◌, ◌<◌, ◌≤◌, Bool, true, false, not, ◌&&◌, List, length, take, filter, Ok, Err, Result, refl, sym, subst, ap, ◌∙◌, arith}
use Rattle.std.proofs.lemmas.Bool.{cases_eq, true≢false}
use Rattle.layout_geometry.specs.Geometry.{Geometry, data_start}
use Rattle.layout_extent.specs.Renew.{renew}
use Rattle.layout_extent.specs.Runs.{stretches}
use Rattle.lang_tree.specs.declared.command.Cmd.{Cmd}
use Rattle.lang_tree.specs.declared.command.Cmd.TheVariants.{Snap}
use Rattle.lang_tree.specs.declared.command.Refusal.{Refusal}
use Rattle.lang_tree.specs.declared.command.Refusal.TheVariants as because
use Rattle.lang_tree.specs.declared.command.Reply.{Reply}
use Rattle.lang_tree.specs.Conditions.{least_unused}
use Rattle.lang_tree.specs.Figures.{Figures}
use Rattle.lang_tree.specs.Sharing.{SharedNodes}
use Rattle.lang_tree.specs.Step.{Session, step}
use Rattle.lang_tree.specs.Tree.{Bounds}
use Rattle.engine_blocks.specs.Ranges.{same_from}
use Rattle.engine_blocks.specs.Running.{has}
use Rattle.engine_blocks.specs.State.{Bookkeeping, State, IsReusable, data_blocks, reusable_blocks}
use Rattle.fs_session.specs.Applying.{reply_for}
use Rattle.fs_session.specs.Lists.{KeptLists}
use Rattle.fs_session.specs.Commands.{Carries, FindsRuns, IsDone, IsRefusedFor, IsScattered, Spends, figures_on, grown_on, is_disk_fault, is_on_tree, is_read_fault, places_of, renewed_on}
use Rattle.fs_session.specs.DiskRoom.{ComesBack}
use Rattle.fs_session.specs.Memory.{LieInMemory, room_of}
use Rattle.fs_session.specs.NothingKept.{renews_nothing}
use Rattle.fs_session.specs.Room.{HoldsTree, IsDoneIn, IsRefusedIn, RefusesIn, Room, Scatters, SpendsRoom, StaysInRuns, left_in, most_weight}
use Rattle.fs_session.specs.Sessions.{IsSession, inodes}
use Rattle.fs_session.specs.Space.{FitsIn, FailsToFit, HasRoom, LacksRoom, grown_in, grown_path, left_of}
use Rattle.fs_session.proofs.rooms.Known.{Known, LeavesSession, brings_back, room_holds, room_is_with, room_with, still_takeable}
use Rattle.fs_session.proofs.rooms.Lists.{kept_behind}
use Rattle.fs_session.proofs.rooms.Nodes.{grown_same, in_few_runs, marked_in_use}
use Rattle.fs_session.proofs.rooms.Same.{never_failed, room_same, rooms}

module _ {S : Type 0} (tells : Bool) (state : S → State) (known : Known tells state) where
  -- What is left, and the most weight, by a room with the same transaction.

  left_is : (s : S) (f : Session) → IsSession (state s) f → left_of (state s).books ≡ left_in (state s).books.geom f (room_of (state s))
  left_is s f h = omega (arith, marked_in_use (state s) (known.agrees s).bits h.tree.sound known.snapshots f.tree h.tree, (known.sound s).area)

  in_room : (P : ℕ → ℕ → Type 0) (s : S) (f : Session) → IsSession (state s) f → P (left_of (state s).books) (state s).books.room → P (left_in (state s).books.geom f (room_of (state s))) (most_weight (state s).books.geom)
  in_room P s f h x = subst (λ n. P n (most_weight (state s).books.geom)) (left_is s f h) (subst (λ n. P (left_of (state s).books) n) (known.sound s).room x)

  pub fits_in : (s : S) (f : Session) (n : Figures) → IsSession (state s) f → HasRoom (state s).books n → FitsIn (left_in (state s).books.geom f (room_of (state s))) (state s).books.running.weight (most_weight (state s).books.geom) n
  fits_in s f n h room = in_room (λ left most. FitsIn left (state s).books.running.weight most n) s f h room

  lacks_in : (s : S) (f : Session) (n : Figures) (why : Refusal) → IsSession (state s) f → LacksRoom (state s).books n why
      → FailsToFit (left_in (state s).books.geom f (room_of (state s))) (state s).books.running.weight (most_weight (state s).books.geom) n why
  lacks_in s f n why h lacks = in_room (λ left most. FailsToFit left (state s).books.running.weight most n why) s f h lacks

  grown_is : (s : S) (f : Session) (cmd : Cmd) → IsSession (state s) f → grown_in f cmd ≡ grown_on (state s) cmd
  grown_is s f (Snap name) h = ap (λ (b : Bounds). least_unused b.nodes f.tree) h.limit ∙ known.least (state s).books.geom (state s).map f.tree h.tree
  grown_is s f cmd h = grown_same (inodes (state s)) f.tree (state s).books.geom.i (grown_path cmd) (known.map (state s).books.geom (state s).map f.tree h.tree)

  -- Done: in the room once the pipeline has settled.

  in_runs : (s : S) (k : Bookkeeping) (f : Session) (cmd : Cmd) → IsSession (state s) f → FindsRuns (state s) k f cmd → StaysInRuns (state s).books.geom f (room_with (state s) k) cmd (figures_on (state s) f cmd).need
  in_runs s k f cmd h finds node some grows = (finds node some (sym (grown_is s f cmd h) ∙ grows)).runs

  spends_room : (s t : S) (k : Bookkeeping) (n : Figures) (renewed : SharedNodes) (lists : KeptLists) → (state t).books.geom ≡ (state s).books.geom → k.geom ≡ (state s).books.geom → Spends (state s) k (state t) n renewed lists → SpendsRoom n renewed lists (room_with (state s) k) (room_of (state t))
  spends_room s t k n renewed lists geom settled x = record {
    weight = x.weight;
    held = x.held;
    takeable =
        ap (λ (g : Geometry). filter (state t).books.reusable (data_blocks g)) (geom ∙ sym settled)
        ∙ same_from (state t).books.reusable (λ b. not (has (take n.need (reusable_blocks k)) b) && k.reusable b) (data_start k.geom) (k.geom.n - data_start k.geom) (λ b from below. x.takeable b)
        ∙ kept_behind k.reusable (data_start k.geom) (k.geom.n - data_start k.geom) n.need;
    placed = x.placed;
    keeps = x.keeps;
  }

  pub done_in : (f : Session) (cmd : Cmd) (reply : Reply) (old new : S) → IsSession (state old) f → (state new).books.geom ≡ (state old).books.geom → (d : IsDone (state old) (state new) f cmd reply)
      → IsDoneIn (state old).books.geom f (room_with (state old) d.settled) cmd reply (step f cmd).0 (room_of (state new))
  done_in f cmd reply old new h geom d = record {
    answer = ap (λ r. ((step f cmd).0, r)) (sym d.answer);
    fits = fits_in old f (figures_on (state old) f cmd) h d.room;
    enough = d.finds.enough;
    runs = in_runs old d.settled f cmd h d.runs;
    spends = spends_room old new d.settled (figures_on (state old) f cmd) (renewed_on (state old) f cmd) _ geom d.finds.moves.geom d.spends;
    holds = subst (λ (g : Geometry). HoldsTree g (step f cmd).0.tree (room_of (state new))) geom (room_holds tells state known new (step f cmd).0 d.session);
  }

  -- which came back
  pub settled_back : (f : Session) (cmd : Cmd) (reply : Reply) (old new : S) → IsSession (state old) f → (d : IsDone (state old) (state new) f cmd reply) → ComesBack (state old).books.geom f (room_of (state old)) (room_with (state old) d.settled)
  settled_back f cmd reply old new h d =
      let moves = d.finds.moves in
      record {
        weight = refl;
        held = refl;
        keeps = record { places = refl; kept = refl; takeable = still_takeable (state old).books d.settled moves.geom moves.reusable };
        is_room = room_is_with tells state known old f h d.settled d.finds.sound moves.geom moves.marked moves.running;
      }

  -- Refused: in the room that it leaves.

  scatters : (f : Session) (cmd : Cmd) (why : Refusal) (old new : S) → IsSession (state old) f → IsScattered (state old) (state new) f cmd why → Scatters (state old).books.geom f (room_with (state old) (state new).books) cmd (figures_on (state old) f cmd).need why
  scatters f cmd why old new h x = record {
    node = x.node;
    some = by (cases_eq (figures_on (state old) f cmd).need 0);
    enough = x.enough;
    grows = grown_is old f cmd h ∙ x.grows;
    is = x.is;
    past = x.past;
  }
    where
      by : ((figures_on (state old) f cmd).need ≡ 0) ⊎ ((figures_on (state old) f cmd).need ≢ 0) → 0 < (figures_on (state old) f cmd).need
      by (inl none) = absurd (omega (
        arith,
        x.past,
        in_few_runs known.back known.many (state old).books.geom (state old).map x.node,
        ap stretches (ap (λ n. renew (renewed_on (state old) f cmd x.node) 0 (places_of (state old) x.node) (take n (reusable_blocks (state new).books))) none ∙ renews_nothing (renewed_on (state old) f cmd x.node) 0 (places_of (state old) x.node)),
      ))
      by (inr some) = omega (arith, some)

  -- the room's own reasons, or the disk's
  pub refused_for : (f : Session) (cmd : Cmd) (why : Refusal) (old new : S) → IsSession (state old) f → IsRefusedFor (state old) (state new) f cmd why
      → IsRefusedIn (state old).books.geom f (room_with (state old) (state new).books) cmd why ⊎ ((why ≡ because.DiskFault) ⊎ (why ≡ because.ReadFault))
  refused_for f cmd why old new h (inl x) = inl (inl (x.accepted, lacks_in old f (figures_on (state old) f cmd) why h x.lacks))
  refused_for f cmd why old new h (inr (inl x)) = inl (inr (inl (x.accepted, fits_in old f (figures_on (state old) f cmd) h x.room, scatters f cmd why old new h x)))
  refused_for f cmd why old new h (inr (inr (inl x))) = inr (inl x.is)
  refused_for f cmd why old new h (inr (inr (inr (inl reading)))) = inr (inr reading)
  refused_for f cmd why old new h (inr (inr (inr (inr memory)))) = inl (inr (inr memory))

  -- A command that isn't a sync, over any blocks, is done or refused in a room.
  abbrev pub EndsOver : Session → Cmd → Reply → S → Session → S → Room → Type 0
  EndsOver f cmd reply old next new r =
      (IsDoneIn (state old).books.geom f r cmd reply next (room_of (state new)) ⊎ RefusesIn (IsRefusedIn (state old).books.geom f r cmd) f r reply next (room_of (state new)))
      ⊎ RefusesIn (λ why. (why ≡ because.DiskFault) ⊎ ((is_on_tree cmd ≡ true) × (why ≡ because.ReadFault))) f r reply next (room_of (state new))

  module _ (f : Session) (cmd : Cmd) (why : Refusal) (old new : S) (on_tree : is_on_tree cmd ≡ true) (h : IsSession (state old) f) (carries : Carries tells cmd (Err why) (state old) (state new)) where
    -- refused, the room that it leaves came back
    pub refused_back : ComesBack (state old).books.geom f (room_of (state old)) (room_of (state new))
    refused_back = brings_back tells state known old new f (carries.kept known.told f h) carries.runs.geom (carries.unspent.map known.told) carries.unspent.running carries.unspent.takeable

    -- in which it is refused
    pub refused_over : EndsOver f cmd (reply_for (Err why)) old f new (room_of (state new))
    refused_over = by (refused_for f cmd why old new h (carries.refused known.told f h))
      where
        -- that room has the transaction and the nodes' blocks as they were
        same : room_with (state old) (state new).books ≡ room_of (state new)
        same = rooms (room_with (state old) (state new).books) (room_of (state new)) (sym refused_back.weight) (sym refused_back.held) refl (sym refused_back.keeps.places) (sym refused_back.keeps.kept)

        by : IsRefusedIn (state old).books.geom f (room_with (state old) (state new).books) cmd why ⊎ ((why ≡ because.DiskFault) ⊎ (why ≡ because.ReadFault)) → EndsOver f cmd (reply_for (Err why)) old f new (room_of (state new))
        by (inl own) = inl (inr (why, subst (λ (r : Room). IsRefusedIn (state old).books.geom f r cmd why) same own, refl, refl, refl))
        by (inr (inl disk)) = inr (why, inl disk, refl, refl, refl)
        by (inr (inr reading)) = inr (why, inr (on_tree, reading), refl, refl, refl)

  -- so it is in a room that came back
  pub carried_over : (f : Session) (cmd : Cmd) (result : Result Reply Refusal) (old new : S) → is_on_tree cmd ≡ true → IsSession (state old) f → Carries tells cmd result (state old) (state new)
      → LeavesSession state old new (λ next. (back : Room) × ComesBack (state old).books.geom f (room_of (state old)) back × EndsOver f cmd (reply_for result) old next new back)
  carried_over f cmd (Ok reply) old new on_tree h carries =
      let d = carries.done known.told f h in
      ((step f cmd).0, d.session, carries.runs.geom, (room_with (state old) d.settled, settled_back f cmd reply old new h d, inl (inl (done_in f cmd reply old new h carries.runs.geom d))))
  carried_over f cmd (Err why) old new on_tree h carries = (
    f,
    carries.kept known.told f h,
    carries.runs.geom,
    (room_of (state new), refused_back f cmd why old new on_tree h carries, refused_over f cmd why old new on_tree h carries),
  )

-- What is known of blocks that lie in memory.
pub record InMemory {S : Type 0} (tells : Bool) (state : S → State) : Type 0 where
  pub known : Known tells state
  pub lies : LieInMemory state

module _ {S : Type 0} (tells : Bool) (state : S → State) (here : InMemory tells state) where
  -- what stays of the map, the transaction and the takeable blocks keeps the room
  pub stays : (s t : S) → (state t).books.geom ≡ (state s).books.geom → (state t).map ≡ (state s).map → (state t).books.running ≡ (state s).books.running
      → ((b : ℕ) → IsReusable (state s).books.geom (state s).books.reusable b → (state t).books.reusable b ≡ true) → room_of (state t) ≡ room_of (state s)
  stays s t geom map running takeable = room_same (state s) (state t) (here.known.agrees s) (here.known.agrees t) geom map (here.known.sound s) (here.known.sound t) (here.lies.waiting s) (here.lies.waiting t) running takeable

  -- what has room finds as many blocks as it needs
  enough : (s : S) (n : Figures) → HasRoom (state s).books n → n.need ≤ length (reusable_blocks (state s).books)
  enough s n room = omega (arith, room.blocks, (here.known.sound s).accounts, here.lies.waiting s)

  -- a command that isn't a sync
  pub carried_in : (f : Session) (cmd : Cmd) (result : Result Reply Refusal) (old new : S) → IsSession (state old) f → Carries tells cmd result (state old) (state new)
      → LeavesSession state old new (λ next. IsDoneIn (state old).books.geom f (room_of (state old)) cmd (reply_for result) next (room_of (state new))
      ⊎ RefusesIn (IsRefusedIn (state old).books.geom f (room_of (state old)) cmd) f (room_of (state old)) (reply_for result) next (room_of (state new)))
  carried_in f cmd (Ok reply) old new h carries =
      let d = carries.done here.known.told f h in
      let rests = d.finds.rests (enough old (figures_on (state old) f cmd) d.room) in
      ((step f cmd).0, d.session, carries.runs.geom, inl (subst (λ (k : Bookkeeping). IsDoneIn (state old).books.geom f (room_with (state old) k) cmd reply (step f cmd).0 (room_of (state new))) rests (done_in tells state here.known f cmd reply old new h carries.runs.geom d)))
  carried_in f cmd (Err why) old new h carries = (
    f,
    carries.kept here.known.told f h,
    carries.runs.geom,
    inr (why, by (refused_for tells state here.known f cmd why old new h (carries.refused here.known.told f h)), refl, refl, same),
  )
    where
      same : room_of (state new) ≡ room_of (state old)
      same = stays old new carries.runs.geom (carries.unspent.map here.known.told) carries.unspent.running carries.unspent.takeable

      reads : is_read_fault (Err why) ≡ false
      reads = never_failed (is_read_fault (Err why)) (state old).counts.read_faults (state new).counts.read_faults carries.runs.read_faults (here.lies.read_faults new)

      fails : is_disk_fault (Err why) ≡ false
      fails = never_failed (is_disk_fault (Err why)) (state old).counts.faults (state new).counts.faults carries.runs.faults (here.lies.faults new)

      by : IsRefusedIn (state old).books.geom f (room_with (state old) (state new).books) cmd why ⊎ ((why ≡ because.DiskFault) ⊎ (why ≡ because.ReadFault)) → IsRefusedIn (state old).books.geom f (room_of (state old)) cmd why
      by (inl own) = subst (λ (xs : List ℕ). IsRefusedIn (state old).books.geom f (record (room_of (state old)) { takeable = xs }) cmd why) (ap (λ (r : Room). r.takeable) same) own
      by (inr (inl disk)) = absurd (true≢false (sym (ap (λ w. is_disk_fault (Err w)) disk) ∙ fails))
      by (inr (inr reading)) = absurd (true≢false (sym (ap (λ w. is_read_fault (Err w)) reading) ∙ reads))

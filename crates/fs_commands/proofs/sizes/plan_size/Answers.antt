use Rattle.std.proofs.Common.{⊎_elim, ◌≡◌, ◌≢◌, ◌≤◌, ◌<◌, false, length, Some, Err, sym, subst, ap, ◌∙◌, arith, IsTrue, Ok, ℕ, List}
use Rattle.layout_geometry.specs.Geometry.{Geometry}
use Rattle.lang_tree.specs.declared.command.Cmd.TheVariants.{Truncate}
use Rattle.lang_tree.specs.declared.command.Refusal.{Refusal}
use Rattle.lang_tree.specs.Step.{Session, resized}
use Rattle.engine_blocks.specs.Running.{Running}
use Rattle.engine_blocks.specs.State.{reusable_blocks}
use Rattle.crash_stands.specs.Files.{FileNode}
use Rattle.fs_inodes.specs.Lookups.{walk_on}
use Rattle.fs_files.specs.Calls.{IsUsed, GrowthRefused, LookRefused, files_in, places_in, with_bytes}
use Rattle.fs_files.specs.Content.{fails_reading}
use Rattle.fs_files.specs.Drafts.{begun_beside, DraftState, nothing_drafted}
use Rattle.fs_files.specs.Effects.{LooksOnly}
use Rattle.fs_files.specs.Growing.{placed, taken_by}
use Rattle.fs_files.specs.Shared.{is_kept}
use Rattle.std.proofs.lemmas.Bool.{cases_order}
use Rattle.fs_session.specs.Commands.{figures_on, places_of, renewed_on}
use Rattle.fs_session.specs.declared.unused.NodeUse.TheVariants.{Stays}
use Rattle.fs_session.specs.Plans.{Plans, StaysBeside}
use Rattle.fs_commands.specs.Sizing.{MayResize}
use Rattle.lang_tree.specs.Sharing.{SharedPlaces}
use Rattle.layout_extent.specs.Renew.{renew}
use Rattle.fs_session.specs.declared.plan.Plan.{Plan}
use Rattle.fs_commands.proofs.Given.{SharedLaw}
use Rattle.fs_commands.proofs.counting.Touched.{ways_renew}
use Rattle.fs_commands.proofs.keeping.Leaves.{settled_places, stands_settled, stays_beside}
use Rattle.fs_commands.proofs.growing.Refused.{growth_refused, refused_alike}
use Rattle.fs_commands.proofs.planning.Looking.{cut_growth, growth_plan, looked_calmly}
use Rattle.fs_commands.proofs.sizing.Resized.{larger_or_smaller, lies_there, need_grown, resized_tree, touches_there, Sized}
use Rattle.fs_commands.proofs.writing.Written.{file_leaves, file_no_dir, moved_to, renewed_there, used_stays, AtFile, at_file}
use Rattle.fs_commands.proofs.looking.Found.{look_begins, settled_files, uses_of}
use Rattle.fs_commands.proofs.looking.InUse.{all_read}
use Rattle.fs_commands.proofs.sizes.plan_size.Given as given
use Rattle.fs_session.specs.Sessions.{IsSession, inodes}
use Rattle.fs_commands.proofs.sizes.plan_size.Goals as goal
use Rattle.fs_commands.proofs.sizes.plan_size.Goals.{After-resize, In-Ok}

pub resize-requires-clause-look : goal.resize-requires-clause-look
resize-requires-clause-look g c = look_begins g.S.Blocks.tells _ _ _ c.beside-draft.ensures c.requires.may.begin c.requires.number c.a_draft_may_begin.ensures

pub resize-requires-clause-used : goal.resize-requires-clause-used
resize-requires-clause-used g c = λ told. subst (λ d. IsUsed (files_in (g.S.Blocks.state c.args.blocks.now) d) c.args.number) (sym c.beside-draft.ensures) ((c.requires.file told).0, (c.requires.file told).1)

pub resize-requires-clause-slots : goal.resize-requires-clause-slots
resize-requires-clause-slots g c = λ told x is dir.
    let file = c.requires.file told in
    file_no_dir (files_in (g.S.Blocks.state c.args.blocks.now) nothing_drafted c.args.number) x file.0 (ap (λ d. files_in (g.S.Blocks.state c.args.blocks.now) d c.args.number) (sym c.beside-draft.ensures) ∙ is) file.1 file.2 dir

-- what the counts tell of a session
shared : (g : given.Over) (c : goal.After-resize g) (told : IsTrue g.S.Blocks.tells) → (f : Session) → IsSession (g.S.Blocks.state c.args.blocks.now) f → SharedLaw (g.S.Blocks.state c.args.blocks.now) f c.args.shared.now
shared g c told f h = λ k i. c.counts_tell_what_is_shared.ensures.shared c.args.blocks.now f c.args.shared.now k i h (c.requires.may.begin.kept told)

-- the file, in each session that the path leads to it in
here : (g : given.Over) (c : goal.After-resize g) (path : List (List ℕ)) (told : IsTrue g.S.Blocks.tells) → walk_on (inodes (g.S.Blocks.state c.args.blocks.now)) 1 path ≡ Ok c.args.number → (f : Session) → IsSession (g.S.Blocks.state c.args.blocks.now) f → AtFile (g.S.Blocks.state c.args.blocks.now) f path c.args.number (c.requires.file told).0
here g c path told walk f h =
    let x = c.requires.file told in
    at_file (g.S.Blocks.state c.args.blocks.now) f path c.args.number x.0 h c.blocks_have_the_map_of_their_tree.ensures.map c.walks_are_the_same.ensures.ends c.the_node_at_a_path_gives_the_inode.ensures.inode c.paths_lead_to_inodes.ensures.bytes walk x.1 x.2
    (c.a_file_has_its_blocks.ensures c.args.blocks.now (begun_beside c.args.shared.now) c.args.number x.0 told (c.a_draft_may_begin.ensures c.args.shared.now c.requires.may.begin) x.1)

-- what the resize left
sized : (g : given.Over) (c : goal.In-Ok g) (told : IsTrue g.S.Blocks.tells) → Sized g.S.Blocks.tells (g.S.Blocks.state c.args.blocks.now) (g.S.Blocks.state c.resize.new.blocks) (begun_beside c.args.shared.now) c.resize.new.self c.args.number c.args.size (c.requires.file told).0
sized g c told =
    let x = c.requires.file told in
    let at = subst (λ d. files_in (g.S.Blocks.state c.args.blocks.now) d c.args.number ≡ Some x.0) (sym c.beside-draft.ensures) x.1 in
    let is = c.in-Ok.ensures in
    moved_to (λ d n. Sized g.S.Blocks.tells (g.S.Blocks.state c.args.blocks.now) (g.S.Blocks.state c.resize.new.blocks) d c.resize.new.self c.args.number n x.0) c.beside-draft.result (begun_beside c.args.shared.now) c.from.result c.args.size c.beside-draft.ensures c.from.ensures
    (record { file = is.file told x.0 at; resizes = is.resizes told x.0 at; cut = λ less. (is.cut told x.0 at (omega (arith, less))).others; grown = λ more. (is.places told x.0 at more).others; looks = is.looks told x.0 at })

-- no other node's blocks changed
others : (g : given.Over) (c : goal.In-Ok g) (told : IsTrue g.S.Blocks.tells) → (l : ℕ) → l ≢ c.args.number → places_in (g.S.Blocks.state c.resize.new.blocks) c.resize.new.self l ≡ places_of (g.S.Blocks.state c.args.blocks.now) l
others g c told l away =
    let w = sized g c told in
    let x = (c.requires.file told).0 in
    ⊎_elim
    (λ same. ap (λ (e : DraftState). places_in (g.S.Blocks.state c.resize.new.blocks) e l) (w.resizes.same (sym same)) ∙ ap (λ (p : ℕ → List ℕ). p l) (settled_places g.S.Blocks.tells false false _ _ (begun_beside c.args.shared.now) c.in-Ok.ensures.settles told))
    (λ differ. ⊎_elim (λ more. w.grown more l away) (λ less. w.cut less l away) differ) (cases_order (length x.bytes) c.args.size)

-- the snapshots stay as they are
stays : (g : given.Over) (c : goal.In-Ok g) → IsTrue g.S.Blocks.tells → StaysBeside c.resize.new.self (g.S.Blocks.state c.resize.new.blocks)
stays g c told =
    let x = c.requires.file told in
    let w = sized g c told in
    stays_beside g.S.Blocks.tells false false _ _ c.resize.new.self c.args.shared.now c.in-Ok.ensures.settles c.requires.may.begin (c.in-Ok.ensures.kept ∙ ap (λ (d : DraftState). d.kept) c.beside-draft.ensures) told
    (file_leaves (g.S.Blocks.state c.args.blocks.now) (g.S.Blocks.state c.resize.new.blocks) c.resize.new.self c.args.number x.0 (with_bytes x.0 (resized c.args.size x.0.bytes)) x.1 x.2 x.2 w.file (others g c told))

pub returns-in-Ok-clause-made : goal.returns-in-Ok-clause-made
returns-in-Ok-clause-made g c =
    let pipeline = c.in-Ok.ensures.settles.pipeline in
    let at = goal.at.returns-in-Ok-clause-made g c in
    record {
      draft = c.in-Ok.ensures.draft;
      sound = λ told sound m has.
          let tree = stands_settled g.S.Blocks.tells false false _ _ c.in-Ok.ensures.settles told (c.requires.may.stands told) in
          c.a_draft_that_leaves_snapshots_makes_its_tree.ensures.sound told c.resize.new.self m tree.0 tree.1 c.in-Ok.ensures.draft (stays g at.In-Ok told) has;
      weight = omega (arith, c.requires.room, ap (λ (r : Running). r.weight) pipeline.running, pipeline.room);
      used = λ told. uses_of Stays (g.S.Blocks.state c.args.blocks.now) (g.S.Blocks.state c.resize.new.blocks) c.resize.new.self (settled_files g.S.Blocks.tells false false _ _ c.in-Ok.ensures.settles told)
          (used_stays _ _ c.args.number _ (sized g at.In-Ok told).file);
    }

-- how many blocks the command needs where the file grows
needs : (g : given.Over) (c : goal.After-resize g) (path : List (List ℕ)) → MayResize g.S.Blocks.tells (g.S.Blocks.state c.args.blocks.now) c.args.number path c.args.size c.args.cost → (told : IsTrue g.S.Blocks.tells) (f : Session) → IsSession (g.S.Blocks.state c.args.blocks.now) f → length (c.requires.file told).0.bytes < c.args.size
    → (figures_on (g.S.Blocks.state c.args.blocks.now) f (Truncate path c.args.size)).need ≡ taken_by (is_kept c.args.shared.now) (length (c.requires.file told).0.bytes) c.args.size (places_of (g.S.Blocks.state c.args.blocks.now) c.args.number)
needs g c path may told f h more =
    let x = c.requires.file told in
    need_grown (g.S.Blocks.state c.args.blocks.now) (g.S.Blocks.state c.resize.new.blocks) f path c.args.number c.args.size c.args.cost x.0 (here g c path told (may.walk told) f h) c.args.shared.now (shared g c told f h) (may.weighed told f h) (may.other told x.0 x.1) more

pub returns-in-Ok-clause-plans : goal.returns-in-Ok-clause-plans
returns-in-Ok-clause-plans g c = λ path may.
    let at = goal.at.returns-in-Ok-clause-plans g c in
    record {
      is = λ told f h. resized_tree (g.S.Blocks.state c.args.blocks.now) (g.S.Blocks.state c.resize.new.blocks) f path c.args.number c.args.size c.args.cost (c.requires.file told).0 (here g at.After-resize path told (may.walk told) f h) c.args.shared.now (shared g at.After-resize told f h) (may.weighed told f h) (may.other told (c.requires.file told).0 (c.requires.file told).1)
          c.resize.new.self g.S.Blocks.tells false false c.in-Ok.ensures.settles (sized g at.In-Ok told) (stays g at.In-Ok told) (all_read (g.S.Blocks.state c.args.blocks.now).books.geom.layout (files_in (g.S.Blocks.state c.args.blocks.now) nothing_drafted) h.tree.inodes h.tree.read) c.new_bytes_are_mapped.ensures.truncate
          c.bytes_lie_in_blocks.ensures.kept_too c.touched_blocks_are_counted_by_division.ensures c.small_drafts_are_within_the_cost.ensures.writing c.small_drafts_are_within_the_cost.ensures.shrinking;
      going = c.requires.may.begin.going;
      quiet = λ told f h enough. looked_calmly g.S.Blocks.tells _ _ _ ((sized g at.In-Ok told).looks (λ more. omega (arith, enough, needs g at.After-resize path may told f h more))) told;
      settles = c.in-Ok.ensures.settles;
    }

pub returns-clause-plans : goal.returns-clause-plans
returns-clause-plans g c = λ path may.
    let s = g.S.Blocks.state c.args.blocks.now in
    let t = g.S.Blocks.state c.resize.new.blocks in
    let why = c.in-Err.why in
    let at = (goal.at.returns-clause-plans g c).After-resize in
    let cmd = Truncate path c.args.size in
    let kept = is_kept c.args.shared.now in
    subst (λ (w : Refusal). Plans g.S.Blocks.tells cmd (Err w) s t) (sym c.refusal_of.ensures) (growth_plan g.S.Blocks.tells cmd s t why c.requires.may.begin.going
    (λ told f h.
    let x = c.requires.file told in
    let a = here g at path told (may.walk told) f h in
    let weighed = may.weighed told f h in
    let fits = c.a_file_fits_the_disk.ensures (begun_beside c.args.shared.now) c.args.number x.0 told (c.a_draft_may_begin.ensures c.args.shared.now c.requires.may.begin) x.1 in
    let size = c.args.size in
    let old = length x.0.bytes in
    let places = places_of s c.args.number in
    let tells = shared g at told f h in
    let other = may.other told x.0 x.1 in
    let with_more : List ℕ → List ℕ = λ more. renew (renewed_on s f cmd c.args.number) 0 places more in
    let refused = moved_to (λ d n. (x : FileNode) → files_in s d c.args.number ≡ Some x → length x.bytes < n
    → GrowthRefused (taken_by (is_kept d.kept) (length x.bytes) n (places_in s d c.args.number)) (placed (is_kept d.kept) (length x.bytes) n (places_in s d c.args.number)) s.books t.books why)
    c.beside-draft.result (begun_beside c.args.shared.now) c.from.result c.args.size c.beside-draft.ensures c.from.ensures (c.in-Err.ensures.refused told) x.0 x.1 in
    let cut_refused = moved_to (λ d n. (x : FileNode) → files_in s d c.args.number ≡ Some x → n ≤ length x.bytes → LookRefused why)
    c.beside-draft.result (begun_beside c.args.shared.now) c.from.result c.args.size c.beside-draft.ensures c.from.ensures (c.in-Err.ensures.cut_refused told) x.0 x.1 in
    growth_refused s t f cmd c.args.number (g.met.S.Blocks.is_sound c.resize.new.blocks) c.in-Err.ensures.settles.pipeline (subst (λ (k : Geometry). k.n ≤ 1048576) c.geom.ensures c.lawful.ensures.limits.most_blocks) weighed.accepted weighed.room a.leads (omega (arith, a.count, fits)) why
    (⊎_elim
    (λ more. subst (λ n. GrowthRefused n with_more s.books t.books why) (sym (needs g at path may told f h more))
    (refused_alike (taken_by kept old size places) (placed kept old size places) with_more s.books t.books
    (λ xs. ways_renew c.args.shared.now places old size xs ∙ ap (λ (r : SharedPlaces). renew r 0 places xs) (sym (renewed_there s f cmd path c.args.number old size c.args.shared.now tells
    (lies_there s t f path c.args.number size c.args.cost x.0 a c.args.shared.now tells weighed other) (touches_there s t f path c.args.number size c.args.cost x.0 a c.args.shared.now tells weighed other)))) why (refused more)))
    (λ less. cut_growth (figures_on s f cmd).need with_more s.books t.books why (cut_refused (omega (arith, less)))) (larger_or_smaller old size other)))
    (λ told f h enough.
    let x = c.requires.file told in
    let looks = moved_to (λ d n. (x : FileNode) → files_in s d c.args.number ≡ Some x → (length x.bytes < n → taken_by (is_kept d.kept) (length x.bytes) n (places_in s d c.args.number) ≤ length (reusable_blocks s.books)) → LooksOnly g.S.Blocks.tells (fails_reading {T = Plan} (Err why)) s t)
    c.beside-draft.result (begun_beside c.args.shared.now) c.from.result c.args.size c.beside-draft.ensures c.from.ensures (c.in-Err.ensures.looks told) x.0 x.1 in
    looked_calmly g.S.Blocks.tells _ s t (looks (λ more. omega (arith, enough, needs g at path may told f h more))) told)
    c.in-Err.ensures.settles)

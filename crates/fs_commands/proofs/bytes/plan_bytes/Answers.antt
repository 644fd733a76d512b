use Rattle.std.proofs.Common.{◌≡◌, ◌+◌, ◌≤◌, false, length, Some, Err, sym, subst, ap, ◌∙◌, arith, IsTrue, Ok, ℕ, List, [], ◌++◌, min}
use Rattle.layout_geometry.specs.Geometry.{Geometry}
use Rattle.lang_tree.specs.declared.command.Refusal.{Refusal}
use Rattle.engine_blocks.specs.Running.{Running}
use Rattle.engine_blocks.specs.State.{reusable_blocks}
use Rattle.crash_stands.specs.Files.{FileNode}
use Rattle.fs_inodes.specs.Lookups.{walk_on}
use Rattle.fs_files.specs.Calls.{GrowthRefused, IsUsed, files_in, places_in, with_bytes}
use Rattle.fs_files.specs.Content.{fails_reading}
use Rattle.fs_files.specs.Drafts.{begun_beside, DraftState, nothing_drafted}
use Rattle.fs_files.specs.Effects.{LooksOnly}
use Rattle.fs_files.specs.Growing.{placed, taken_by}
use Rattle.fs_files.specs.Shared.{is_kept}
use Rattle.fs_session.specs.Commands.{figures_on, places_of, renewed_on}
use Rattle.fs_session.specs.declared.unused.NodeUse.TheVariants.{Stays}
use Rattle.fs_session.specs.Plans.{Plans, StaysBeside}
use Rattle.fs_commands.specs.Writing.{MayPut}
use Rattle.lang_tree.specs.declared.command.Cmd.{Cmd}
use Rattle.lang_tree.specs.Sharing.{SharedPlaces}
use Rattle.layout_extent.specs.Renew.{renew}
use Rattle.fs_files.specs.Bytes.{overwritten}
use Rattle.fs_session.specs.declared.plan.Plan.{Plan}
use Rattle.fs_commands.proofs.Given.{SharedLaw}
use Rattle.fs_commands.proofs.counting.Touched.{ways_renew}
use Rattle.fs_commands.proofs.keeping.Leaves.{grows_alike, stands_settled, stays_beside}
use Rattle.fs_commands.proofs.growing.Refused.{growth_refused, refused_alike}
use Rattle.fs_commands.proofs.planning.Looking.{growth_plan, looked_calmly}
use Rattle.fs_commands.proofs.writing.Puts.{puts_so}
use Rattle.fs_commands.proofs.writing.Written.{file_leaves, file_no_dir, lies_there, moved_to, need_is, puts_tree, renewed_there, touches_there, used_stays, AtFile, at_file, Wrote}
use Rattle.fs_commands.proofs.looking.InUse.{all_read}
use Rattle.fs_commands.proofs.looking.Found.{look_begins, settled_files, uses_of}
use Rattle.fs_commands.proofs.bytes.plan_bytes.Given as given
use Rattle.lang_tree.specs.Step.{Session}
use Rattle.fs_session.specs.Sessions.{IsSession, inodes}
use Rattle.fs_commands.proofs.bytes.plan_bytes.Goals as goal
use Rattle.fs_commands.proofs.bytes.plan_bytes.Goals.{After-write_at, In-Ok}

pub write_at-requires-clause-look : goal.write_at-requires-clause-look
write_at-requires-clause-look g c = look_begins g.S.Blocks.tells _ _ _ c.beside-draft.ensures c.requires.may.begin c.requires.number c.a_draft_may_begin.ensures

pub write_at-requires-clause-used : goal.write_at-requires-clause-used
write_at-requires-clause-used g c = λ told. subst (λ d. IsUsed (files_in (g.S.Blocks.state c.args.blocks.now) d) c.args.number) (sym c.beside-draft.ensures) ((c.requires.file told).0, (c.requires.file told).1)

pub write_at-requires-clause-slots : goal.write_at-requires-clause-slots
write_at-requires-clause-slots g c = λ told x is dir.
    let file = c.requires.file told in
    file_no_dir (files_in (g.S.Blocks.state c.args.blocks.now) nothing_drafted c.args.number) x file.0 (ap (λ d. files_in (g.S.Blocks.state c.args.blocks.now) d c.args.number) (sym c.beside-draft.ensures) ∙ is) file.1 file.2 dir

-- what the counts tell of a session
shared : (g : given.Over) (c : goal.After-write_at g) (told : IsTrue g.S.Blocks.tells) → (f : Session) → IsSession (g.S.Blocks.state c.args.blocks.now) f → SharedLaw (g.S.Blocks.state c.args.blocks.now) f c.args.shared.now
shared g c told f h = λ k i. c.counts_tell_what_is_shared.ensures.shared c.args.blocks.now f c.args.shared.now k i h (c.requires.may.begin.kept told)

-- the file, in each session that the path leads to it in
here : (g : given.Over) (c : goal.After-write_at g) (path : List (List ℕ)) (told : IsTrue g.S.Blocks.tells) → walk_on (inodes (g.S.Blocks.state c.args.blocks.now)) 1 path ≡ Ok c.args.number → (f : Session) → IsSession (g.S.Blocks.state c.args.blocks.now) f → AtFile (g.S.Blocks.state c.args.blocks.now) f path c.args.number (c.requires.file told).0
here g c path told walk f h =
    let x = c.requires.file told in
    at_file (g.S.Blocks.state c.args.blocks.now) f path c.args.number x.0 h c.blocks_have_the_map_of_their_tree.ensures.map c.walks_are_the_same.ensures.ends c.the_node_at_a_path_gives_the_inode.ensures.inode c.paths_lead_to_inodes.ensures.bytes walk x.1 x.2
    (c.a_file_has_its_blocks.ensures c.args.blocks.now (begun_beside c.args.shared.now) c.args.number x.0 told (c.a_draft_may_begin.ensures c.args.shared.now c.requires.may.begin) x.1)

-- what the write left
wrote : (g : given.Over) (c : goal.In-Ok g) (told : IsTrue g.S.Blocks.tells) → Wrote g.S.Blocks.tells (g.S.Blocks.state c.args.blocks.now) (g.S.Blocks.state c.write_at.new.blocks) (begun_beside c.args.shared.now) c.write_at.new.self c.args.number c.args.offset c.args.bytes.now (c.requires.file told).0
wrote g c told =
    let x = c.requires.file told in
    let at = subst (λ d. files_in (g.S.Blocks.state c.args.blocks.now) d c.args.number ≡ Some x.0) (sym c.beside-draft.ensures) x.1 in
    let is = c.in-Ok.ensures in
    moved_to (λ d n. Wrote g.S.Blocks.tells (g.S.Blocks.state c.args.blocks.now) (g.S.Blocks.state c.write_at.new.blocks) d c.write_at.new.self c.args.number n c.args.bytes.now x.0) c.beside-draft.result (begun_beside c.args.shared.now) c.from.result c.args.offset c.beside-draft.ensures c.from.ensures
    (record { file = is.file told x.0 at; grows = is.grows told x.0 at c.requires.some; among = is.among told x.0 at c.requires.some; others = (is.places told x.0 at c.requires.some).others; looks = is.looks told x.0 at })

-- the snapshots stay as they are
stays : (g : given.Over) (c : goal.In-Ok g) → IsTrue g.S.Blocks.tells → StaysBeside c.write_at.new.self (g.S.Blocks.state c.write_at.new.blocks)
stays g c told =
    let x = c.requires.file told in
    let w = wrote g c told in
    stays_beside g.S.Blocks.tells false false _ _ c.write_at.new.self c.args.shared.now c.in-Ok.ensures.settles c.requires.may.begin (c.in-Ok.ensures.kept ∙ ap (λ (d : DraftState). d.kept) c.beside-draft.ensures) told
    (file_leaves (g.S.Blocks.state c.args.blocks.now) (g.S.Blocks.state c.write_at.new.blocks) c.write_at.new.self c.args.number x.0 (with_bytes x.0 (overwritten c.args.offset c.args.bytes.now x.0.bytes)) x.1 x.2 x.2 w.file w.others)

pub returns-in-Ok-clause-made : goal.returns-in-Ok-clause-made
returns-in-Ok-clause-made g c =
    let pipeline = c.in-Ok.ensures.settles.pipeline in
    let at = goal.at.returns-in-Ok-clause-made g c in
    record {
      draft = c.in-Ok.ensures.draft;
      sound = λ told sound m has.
          let tree = stands_settled g.S.Blocks.tells false false _ _ c.in-Ok.ensures.settles told (c.requires.may.stands told) in
          c.a_draft_that_leaves_snapshots_makes_its_tree.ensures.sound told c.write_at.new.self m tree.0 tree.1 c.in-Ok.ensures.draft (stays g at.In-Ok told) has;
      weight = omega (arith, c.requires.room, ap (λ (r : Running). r.weight) pipeline.running, pipeline.room);
      used = λ told. uses_of Stays (g.S.Blocks.state c.args.blocks.now) (g.S.Blocks.state c.write_at.new.blocks) c.write_at.new.self (settled_files g.S.Blocks.tells false false _ _ c.in-Ok.ensures.settles told)
          (used_stays _ _ c.args.number _ (wrote g at.In-Ok told).file);
    }

-- how many blocks the command needs
needs : (g : given.Over) (c : goal.After-write_at g) (cmd : Cmd) (path : List (List ℕ)) → MayPut g.S.Blocks.tells (g.S.Blocks.state c.args.blocks.now) c.args.number cmd path c.args.offset c.args.bytes.now c.args.cost → (told : IsTrue g.S.Blocks.tells) (f : Session) → IsSession (g.S.Blocks.state c.args.blocks.now) f
    → (figures_on (g.S.Blocks.state c.args.blocks.now) f cmd).need ≡ taken_by (is_kept c.args.shared.now) (min c.args.offset (length (c.requires.file told).0.bytes)) (c.args.offset + length c.args.bytes.now) (places_of (g.S.Blocks.state c.args.blocks.now) c.args.number)
needs g c cmd path may told f h =
    need_is (g.S.Blocks.state c.args.blocks.now) f cmd path c.args.offset c.args.number c.args.cost c.args.bytes.now (c.requires.file told).0 (here g c path told (may.walk told) f h) c.args.shared.now (shared g c told f h) (puts_so cmd path c.args.offset c.args.bytes.now may.puts c.new_bytes_are_mapped.ensures.write c.new_bytes_are_mapped.ensures.fill) (may.weighed told f h) c.requires.some

pub returns-in-Ok-clause-plans : goal.returns-in-Ok-clause-plans
returns-in-Ok-clause-plans g c = λ cmd path may.
    let at = goal.at.returns-in-Ok-clause-plans g c in
    record {
      is = λ told f h. puts_tree (g.S.Blocks.state c.args.blocks.now) f cmd path c.args.offset c.args.number c.args.cost c.args.bytes.now (c.requires.file told).0 (here g at.After-write_at path told (may.walk told) f h) c.args.shared.now (shared g at.After-write_at told f h) (puts_so cmd path c.args.offset c.args.bytes.now may.puts c.new_bytes_are_mapped.ensures.write c.new_bytes_are_mapped.ensures.fill) (may.weighed told f h) c.requires.some
          (g.S.Blocks.state c.write_at.new.blocks) c.write_at.new.self g.S.Blocks.tells false false c.bytes_lie_in_blocks.ensures.kept_too c.touched_blocks_are_counted_by_division.ensures c.small_drafts_are_within_the_cost.ensures.writing c.in-Ok.ensures.settles (wrote g at.In-Ok told) (stays g at.In-Ok told) (all_read (g.S.Blocks.state c.args.blocks.now).books.geom.layout (files_in (g.S.Blocks.state c.args.blocks.now) nothing_drafted) h.tree.inodes h.tree.read);
      going = c.requires.may.begin.going;
      quiet = λ told f h enough. looked_calmly g.S.Blocks.tells _ _ _ ((wrote g at.In-Ok told).looks (omega (arith, enough, needs g at.After-write_at cmd path may told f h))) told;
      settles = c.in-Ok.ensures.settles;
    }

pub returns-clause-plans : goal.returns-clause-plans
returns-clause-plans g c = λ cmd path may.
    let s = g.S.Blocks.state c.args.blocks.now in
    let t = g.S.Blocks.state c.write_at.new.blocks in
    let why = c.in-Err.why in
    let at = (goal.at.returns-clause-plans g c).After-write_at in
    let kept = is_kept c.args.shared.now in
    subst (λ (w : Refusal). Plans g.S.Blocks.tells cmd (Err w) s t) (sym c.refusal_of.ensures) (growth_plan g.S.Blocks.tells cmd s t why c.requires.may.begin.going
    (λ told f h.
    let x = c.requires.file told in
    let a = here g at path told (may.walk told) f h in
    let so = puts_so cmd path c.args.offset c.args.bytes.now may.puts c.new_bytes_are_mapped.ensures.write c.new_bytes_are_mapped.ensures.fill in
    let weighed = may.weighed told f h in
    let fits = c.a_file_fits_the_disk.ensures (begun_beside c.args.shared.now) c.args.number x.0 told (c.a_draft_may_begin.ensures c.args.shared.now c.requires.may.begin) x.1 in
    let lo = min c.args.offset (length x.0.bytes) in
    let hi = c.args.offset + length c.args.bytes.now in
    let places = places_of s c.args.number in
    let tells = shared g at told f h in
    let refused = moved_to (λ d n. (x : FileNode) → files_in s d c.args.number ≡ Some x
    → GrowthRefused (taken_by (is_kept d.kept) (min n (length x.bytes)) (n + length c.args.bytes.now) (places_in s d c.args.number)) (placed (is_kept d.kept) (min n (length x.bytes)) (n + length c.args.bytes.now) (places_in s d c.args.number)) s.books t.books why)
    c.beside-draft.result (begun_beside c.args.shared.now) c.from.result c.args.offset c.beside-draft.ensures c.from.ensures (c.in-Err.ensures.refused told) x.0 x.1 in
    growth_refused s t f cmd c.args.number (g.met.S.Blocks.is_sound c.write_at.new.blocks) c.in-Err.ensures.settles.pipeline (subst (λ (g : Geometry). g.n ≤ 1048576) c.geom.ensures c.lawful.ensures.limits.most_blocks) weighed.accepted weighed.room (grows_alike s cmd so.keeps ∙ so.grown (inodes s) ∙ a.leads) (omega (arith, a.count, fits)) why
    (subst (λ n. GrowthRefused n (λ more. renew (renewed_on s f cmd c.args.number) 0 places more) s.books t.books why) (sym (needs g at cmd path may told f h))
    (refused_alike (taken_by kept lo hi places) (placed kept lo hi places) (λ more. renew (renewed_on s f cmd c.args.number) 0 places more) s.books t.books
    (λ more. ways_renew c.args.shared.now places lo hi more ∙ ap (λ (r : SharedPlaces). renew r 0 places more) (sym (renewed_there s f cmd path c.args.number lo hi c.args.shared.now tells
    (lies_there s f cmd path c.args.offset c.args.number c.args.cost c.args.bytes.now x.0 a c.args.shared.now tells so weighed c.requires.some) (touches_there s f cmd path c.args.offset c.args.number c.args.cost c.args.bytes.now x.0 a c.args.shared.now tells so weighed c.requires.some)))) why refused)))
    (λ told f h enough.
    let x = c.requires.file told in
    let looks = moved_to (λ d n. (x : FileNode) → files_in s d c.args.number ≡ Some x → taken_by (is_kept d.kept) (min n (length x.bytes)) (n + length c.args.bytes.now) (places_in s d c.args.number) ≤ length (reusable_blocks s.books) → LooksOnly g.S.Blocks.tells (fails_reading {T = Plan} (Err why)) s t)
    c.beside-draft.result (begun_beside c.args.shared.now) c.from.result c.args.offset c.beside-draft.ensures c.from.ensures (c.in-Err.ensures.looks told) x.0 x.1 in
    looked_calmly g.S.Blocks.tells _ s t (looks (omega (arith, enough, needs g at cmd path may told f h))) told)
    c.in-Err.ensures.settles)

-- A draft in which a name moved makes the tree of the rename, and is within its cost.
use Rattle.std.proofs.Common.{◌≡◌, ◌≢◌, ℕ, ◌+◌, ◌≤◌, ◌==◌, cond, IsTrue, Bool, true, false, List, [], ◌∷◌, ◌++◌, length, take, None, Some, is_some, refl, sym, subst, ap, ap₂, ◌∙◌, arith, Option}
use Rattle.std.proofs.lemmas.Bool.{cond-true, cond-false, eq-eqb, ne_eqb}
use Rattle.std.proofs.lemmas.List.{length-take}
use Rattle.base_types.specs.Seal.{Blocks}
use Rattle.layout_geometry.specs.Geometry.{Geometry, bitmap_blocks}
use Rattle.layout_extent.specs.Renew.{renew}
use Rattle.layout_bytes.specs.declared.slot.Slot.{Slot}
use Rattle.lang_tree.specs.declared.command.Cmd.{Cmd}
use Rattle.lang_tree.specs.declared.command.Cmd.TheVariants.{Rename}
use Rattle.lang_tree.specs.Conditions.{refusal}
use Rattle.lang_tree.specs.Figures.{Figures, nothing, moving, growth, release, are_in_one}
use Rattle.lang_tree.specs.Paths.{parent}
use Rattle.lang_tree.specs.Step.{Session, step}
use Rattle.lang_tree.specs.Tree.{Tree}
use Rattle.lang_tree.specs.Walk.{are_same}
use Rattle.crash_stands.specs.Inodes.{Inodes, ADir}
use Rattle.crash_stands.specs.Maps.{IsMapOf}
use Rattle.crash_stands.specs.Stands.{AreSound}
use Rattle.crash_stands.specs.Walks.{LeadsTo}
use Rattle.fs_inodes.specs.Changes.{MovesSlot}
use Rattle.fs_inodes.specs.Figures.{cost_over_by, move_cost, slots_above, blocks_lost}
use Rattle.fs_inodes.specs.Lookups.{number_at}
use Rattle.fs_inodes.specs.Refusals.{rename_reason}
use Rattle.fs_inodes.specs.Replies.{reply_by}
use Rattle.engine_blocks.specs.State.{Bookkeeping, State, reusable_blocks}
use Rattle.fs_files.specs.Calls.{files_in, places_in}
use Rattle.fs_files.specs.Sound.{IsDraftOf}
use Rattle.fs_files.specs.Drafts.{DraftState, nothing_drafted}
use Rattle.fs_dirs.specs.Changing.{Alters}
use Rattle.fs_dirs.specs.Directories.{inodes_in}
use Rattle.fs_session.specs.Changes.{IsWithinCost, Uses}
use Rattle.fs_session.specs.Commands.{FindsRuns, alone_on, figures_on, grown_on, places_of, renewed_on, shared_on}
use Rattle.fs_commands.specs.declared.removing.Named.{Named}
use Rattle.fs_commands.specs.Moving.{KnowsMove, KnowsPaths, MayMoveAway, MayRename, MovesName}
use Rattle.fs_session.specs.Plans.{HasDrafted, MakesTree, MayBeMade, StaysBeside}
use Rattle.fs_session.specs.declared.unused.NodeUse.{NodeUse}
use Rattle.fs_session.specs.declared.unused.NodeUse.TheVariants.{Stays}
use Rattle.fs_session.specs.Sessions.{KeepsUsed, inodes}
use Rattle.fs_commands.proofs.looking.Found.{uses_of}
use Rattle.fs_session.specs.Space.{ArePlaced, HasRoom, none_renewed}
use Rattle.fs_commands.proofs.looking.Spots.{above}
use Rattle.fs_commands.proofs.moved.Known.{entry_lacks}
use Rattle.fs_commands.proofs.Given.{FiguresLaw, PriceLaw, RefusalLaw, ReplyLaw}
use Rattle.fs_commands.specs.declared.paths.Entry.{Entry}
use Rattle.lang_tree.specs.Sharing.{BlocksAlone, SharedNodes, figures_over}
use Rattle.fs_session.specs.NothingKept.{behind_all, renews_without_bytes, uses_unrenewed}

-- what is altered bounds the price
pub within_move : (g : Geometry) (d : DraftState) (most frees grown : ℕ) (takes : List ℕ) → PriceLaw → Alters most takes frees nothing_drafted d → most ≤ 6 → length takes ≤ grown → IsWithinCost g d (moving (bitmap_blocks g) grown frees).cost
within_move g d most frees grown takes law alters few less =
    let p = law g most frees takes d alters in
    record { blocks = p.0; only = p.1; price = omega (arith, p.2, few, less); some = λ costs. alters.some }

-- what a rename takes, by what the two paths lead to
module _ (bitmap : ℕ) (shared : SharedNodes) (alone : BlocksAlone) (f : Session) (m : Inodes) (from to : List (List ℕ)) (map : IsMapOf f.limit.nodes m f.tree) (accepted : rename_reason f.limit.layout m from to ≡ None) (apart : are_same (number_at m from) (number_at m to) ≡ false)
    (law : FiguresLaw) where
  -- where nothing is at the second path
  abbrev free_cost : Figures
  free_cost = cond (are_in_one from to) (moving bitmap 0 0) (moving bitmap (growth f.limit.layout (slots_above m to)) (release f.limit.layout (slots_above m from)))

  moves_cost : figures_over bitmap shared alone f (Rename from to) ≡ move_cost bitmap shared f.limit.layout m from to
  moves_cost = law bitmap shared alone f m (Rename from to) map ∙ ap (λ r. cost_over_by bitmap shared alone f.limit f.tree.snapshots m (Rename from to) r) accepted
      ∙ cond-false (are_same (number_at m from) (number_at m to)) nothing (move_cost bitmap shared f.limit.layout m from to) apart

  pub onto_cost : is_some (number_at m to) ≡ true → figures_over bitmap shared alone f (Rename from to) ≡ moving bitmap 0 (release f.limit.layout (slots_above m from) + blocks_lost shared m to)
  onto_cost there = moves_cost ∙ cond-true (is_some (number_at m to)) (moving bitmap 0 (release f.limit.layout (slots_above m from) + blocks_lost shared m to)) free_cost there

  pub within_cost : is_some (number_at m to) ≡ false → are_in_one from to ≡ true → figures_over bitmap shared alone f (Rename from to) ≡ moving bitmap 0 0
  within_cost free one = moves_cost
      ∙ cond-false (is_some (number_at m to)) (moving bitmap 0 (release f.limit.layout (slots_above m from) + blocks_lost shared m to)) free_cost free
      ∙ cond-true (are_in_one from to) (moving bitmap 0 0) (moving bitmap (growth f.limit.layout (slots_above m to)) (release f.limit.layout (slots_above m from))) one

  pub across_cost : is_some (number_at m to) ≡ false → are_in_one from to ≡ false → figures_over bitmap shared alone f (Rename from to) ≡ moving bitmap (growth f.limit.layout (slots_above m to)) (release f.limit.layout (slots_above m from))
  across_cost free two = moves_cost
      ∙ cond-false (is_some (number_at m to)) (moving bitmap 0 (release f.limit.layout (slots_above m from) + blocks_lost shared m to)) free_cost free
      ∙ cond-false (are_in_one from to) (moving bitmap 0 0) (moving bitmap (growth f.limit.layout (slots_above m to)) (release f.limit.layout (slots_above m from))) two

-- the blocks that a rename uses are those taken
move_uses : (s t : State) (source into node most frees grown : ℕ) (takes : List ℕ) (name other : List ℕ) (d : DraftState) (nodes : NodeUse) → MovesName s t d source into node name other most takes frees nodes
    → takes ≡ take grown (reusable_blocks t.books) → Uses grown frees (reusable_blocks t.books) none_renewed (places_of s) (places_in t d) d
move_uses s t source into node most frees grown takes name other d nodes made are = record {
  taken = made.alters.taken ∙ are;
  freed_are = omega (arith, made.alters.freed);
  placed = subst (λ (bs : List ℕ). ArePlaced none_renewed (places_of s) (places_in t d) bs) are made.placed;
}

-- It renews no place: new blocks stand behind all of a directory's own.
pub move_renews : (s : State) (f : Session) (from to : List (List ℕ)) → renewed_on s f (Rename from to) ≡ none_renewed
move_renews s f from to = renews_without_bytes s f (Rename from to) refl

pub move_stands : (s : State) (f : Session) (from to : List (List ℕ)) (dir : ℕ) (more : List ℕ) → places_of s dir ++ more ≡ renew (renewed_on s f (Rename from to) dir) 0 (places_of s dir) more
move_stands s f from to dir more = sym (ap (λ (renewed : SharedNodes). renew (renewed dir) 0 (places_of s dir) more) (move_renews s f from to) ∙ behind_all 0 (places_of s dir) more)

-- A rename that the tree accepts, as it is weighed: what is known of it, and its figures.
pub record MoveIs (s : State) (f : Session) (from to : List (List ℕ)) (source : Named) (into count : ℕ) (found : Option Entry) (other : List ℕ) (grown freed : ℕ) (fs : Figures) : Type 0 where
  pub known : KnowsMove s.books.geom.layout (files_in s nothing_drafted) from to source into count found other
  pub map : IsMapOf f.limit.nodes (inodes s) f.tree
  pub reason : rename_reason f.limit.layout (inodes s) from to ≡ None
  pub accepted : refusal f.limit f.tree (Rename from to) ≡ None
  pub counted : figures_on s f (Rename from to) ≡ moving (bitmap_blocks s.books.geom) grown freed
  pub figures : figures_on s f (Rename from to) ≡ fs

pub move_is : (s : State) (f : Session) (from to : List (List ℕ)) (source : Named) (into count : ℕ) (found : Option Entry) (other : List ℕ) (grown freed : ℕ) (fs : Figures) → KnowsMove s.books.geom.layout (files_in s nothing_drafted) from to source into count found other
    → IsMapOf f.limit.nodes (inodes s) f.tree → rename_reason f.limit.layout (inodes s) from to ≡ None → RefusalLaw → figures_on s f (Rename from to) ≡ moving (bitmap_blocks s.books.geom) grown freed → fs ≡ moving (bitmap_blocks s.books.geom) grown freed
    → MoveIs s f from to source into count found other grown freed fs
move_is s f from to source into count found other grown freed fs known map none law counted same =
    record { known = known; map = map; reason = none; accepted = law f.limit (inodes s) f.tree (Rename from to) map ∙ none; counted = counted; figures = counted ∙ sym same }

-- the tree of a rename
pub planned_move : (s t : State) (f : Session) (from to : List (List ℕ)) (source : Named) (into count : ℕ) (found : Option Entry) (other : List ℕ) (most frees grown : ℕ) (fs : Figures) (takes : List ℕ) (d : DraftState) (nodes : NodeUse)
    → (a : MoveIs s f from to source into count found other grown frees fs) → MovesName s t d source.dir into source.entry.node.number a.known.name other most takes frees nodes → StaysBeside d t → HasRoom s.books fs
    → most ≤ 6 → takes ≡ take grown (reusable_blocks t.books) → grown ≤ length (reusable_blocks t.books) → (grown ≤ length (reusable_blocks s.books) → t.books ≡ s.books) → t.books.geom ≡ s.books.geom
    → FindsRuns s t.books f (Rename from to)
    → ((s : Session) (m new : Inodes) (up to : List (List ℕ)) (name other : List ℕ) (from into node : ℕ) → IsMapOf s.limit.nodes m s.tree → refusal s.limit s.tree (Rename (up ++ name ∷ []) (to ++ other ∷ [])) ≡ None
    → LeadsTo m up from → LeadsTo m to into → MovesSlot m new from into node name other → IsMapOf s.limit.nodes new (step s (Rename (up ++ name ∷ []) (to ++ other ∷ []))).0.tree)
    → ReplyLaw → PriceLaw
    → MakesTree (Rename from to) d fs.cost s t f
planned_move s t f from to source into count found other most frees grown fs takes d nodes a made stays room few are enough rests geom runs moved replies prices =
    let paths = a.known.paths in
    let costs = ap (λ (n : Figures). n.cost) a.figures in
    let same : Rename (paths.up ++ a.known.name ∷ []) (paths.above ++ other ∷ []) ≡ Rename from to = ap₂ (λ a b. Rename a b) (sym paths.from_is) (sym paths.to_is) in
    record {
      accepted = a.accepted;
      answer = replies f (inodes s) (Rename from to) a.map refl ∙ ap (λ r. reply_by f.tree.snapshots (inodes s) (Rename from to) r) a.reason;
      costs = costs;
      room = subst (λ (n : Figures). HasRoom s.books n) (sym a.figures) room;
      runs = runs;
      reads = made.reads;
      map = subst (λ (cmd : Cmd). IsMapOf f.limit.nodes (inodes_in t d) (step f cmd).0.tree) same
          (moved f (inodes s) (inodes_in t d) paths.up paths.above a.known.name other source.dir into source.entry.node.number a.map (subst (λ (cmd : Cmd). refusal f.limit f.tree cmd ≡ None) (sym same) a.accepted) paths.source_leads paths.into_leads made.moves);
      snapshots = stays;
      within = subst (λ n. IsWithinCost t.books.geom d n) (sym (ap (λ (n : Figures). n.cost) a.counted) ∙ costs)
          (subst (λ (g : Geometry). IsWithinCost t.books.geom d (moving (bitmap_blocks g) grown frees).cost) geom (within_move t.books.geom d most frees grown takes prices made.alters few (omega (arith, ap (λ (bs : List ℕ). length bs) are, length-take grown (reusable_blocks t.books)))));
      uses = uses_unrenewed s f (Rename from to) (move_renews s f from to) _ _ (reusable_blocks t.books) (places_of s) (places_in t d) d
          (subst (λ (n : Figures). Uses n.need n.freed (reusable_blocks t.books) none_renewed (places_of s) (places_in t d) d) (sym a.counted) (move_uses s t source.dir into source.entry.node.number most frees grown takes a.known.name other d nodes made are));
      enough = subst (λ (n : Figures). n.need ≤ length (reusable_blocks t.books)) (sym a.counted) enough;
      rests = λ enough. rests (subst (λ (n : Figures). n.need ≤ length (reusable_blocks s.books)) a.counted enough);
    }

-- it needs no blocks
pub no_growth : (s : State) (settled : Bookkeeping) (f : Session) (cmd : Cmd) (bitmap freed : ℕ) → figures_on s f cmd ≡ moving bitmap 0 freed → FindsRuns s settled f cmd
no_growth s settled f cmd bitmap freed are = λ k some grown. absurd (omega (arith, some, ap (λ (n : Figures). n.need) are))

-- its figures are those that were counted
module _ (s : State) (f : Session) (from to : List (List ℕ)) (source : Named) (other : List ℕ) (map : IsMapOf f.limit.nodes (inodes s) f.tree) (accepted : rename_reason f.limit.layout (inodes s) from to ≡ None) (same : f.limit.layout ≡ s.books.geom.layout)
    (law : FiguresLaw) where
  pub onto_counted : (target : Named) → KnowsMove s.books.geom.layout (files_in s nothing_drafted) from to source target.dir target.count (Some target.entry) other → (gone : ℕ) → blocks_lost (shared_on s f) (inodes s) to ≡ gone
      → figures_on s f (Rename from to) ≡ moving (bitmap_blocks s.books.geom) 0 (release s.books.geom.layout source.count + gone)
  onto_counted target k gone lost = onto_cost (bitmap_blocks s.books.geom) (shared_on s f) (alone_on s f) f (inodes s) from to map accepted k.apart law k.there
      ∙ ap₂ (λ c g. moving (bitmap_blocks s.books.geom) 0 (release f.limit.layout c + g)) (sym k.slots) lost
      ∙ ap (λ l. moving (bitmap_blocks s.books.geom) 0 (release l source.count + gone)) same

  module _ (into count : ℕ) (k : KnowsMove s.books.geom.layout (files_in s nothing_drafted) from to source into count None other)
      (one : (limit : ℕ) (m : Inodes) (t : Tree) (up to : List (List ℕ)) (name other : List ℕ) (dir into : ℕ) (slots : List Slot) → IsMapOf limit m t → LeadsTo m up dir → LeadsTo m to into → m dir ≡ Some (ADir slots)
      → are_in_one (up ++ name ∷ []) (to ++ other ∷ []) ≡ (dir == into)) where
    in_one : are_in_one from to ≡ (source.dir == into)
    in_one = ap₂ are_in_one k.paths.from_is k.paths.to_is
        ∙ one f.limit.nodes (inodes s) f.tree k.paths.up k.paths.above k.name other source.dir into k.named.slots map k.paths.source_leads k.paths.into_leads k.named.dir

    pub within_counted : source.dir ≡ into → figures_on s f (Rename from to) ≡ moving (bitmap_blocks s.books.geom) 0 0
    within_counted same = within_cost (bitmap_blocks s.books.geom) (shared_on s f) (alone_on s f) f (inodes s) from to map accepted k.apart law k.there (in_one ∙ eq-eqb source.dir into same)

    pub across_counted : source.dir ≢ into → figures_on s f (Rename from to) ≡ moving (bitmap_blocks s.books.geom) (growth s.books.geom.layout count) (release s.books.geom.layout source.count)
    across_counted two = across_cost (bitmap_blocks s.books.geom) (shared_on s f) (alone_on s f) f (inodes s) from to map accepted k.apart law k.there (in_one ∙ ne_eqb source.dir into two)
        ∙ ap₂ (λ c n. moving (bitmap_blocks s.books.geom) (growth f.limit.layout c) (release f.limit.layout n)) (sym k.more) (sym k.slots)
        ∙ ap (λ l. moving (bitmap_blocks s.books.geom) (growth l count) (release l source.count)) same

-- figures that were made of equal numbers
pub counted_as : (bitmap grown freed b g n : ℕ) (fs : Figures) → fs ≡ moving bitmap grown freed → bitmap ≡ b → grown ≡ g → freed ≡ n → fs ≡ moving b g n
counted_as bitmap grown freed b g n fs is x y z = is ∙ ap (λ i. moving i grown freed) x ∙ ap₂ (λ i j. moving b i j) y z

-- the draft may be made, where no node goes
pub move_made : (tells : Bool) (s now : State) (d : DraftState) (fs : Figures) → IsDraftOf tells now d → (IsTrue tells → AreSound now.books.geom now.map → (m : Blocks) → HasDrafted now d m → AreSound now.books.geom m)
    → now.books.running.weight ≡ s.books.running.weight → now.books.room ≡ s.books.room → HasRoom s.books fs
    → (IsTrue tells → files_in now nothing_drafted ≡ files_in s nothing_drafted) → (IsTrue tells → KeepsUsed Stays (files_in s nothing_drafted) (files_in now d)) → MayBeMade tells d fs.cost Stays now
move_made tells s now d fs draft sound weight room has same used = record { draft = draft; sound = sound; weight = omega (arith, weight, room, has.weight); used = λ told. uses_of Stays s now d (same told) (used told) }

-- what moves to a free name of its directory, and of another one
pub may_rename : (s : State) (from to : List (List ℕ)) (source : Named) (other : List ℕ) → (k : KnowsMove s.books.geom.layout (files_in s nothing_drafted) from to source source.dir source.count None other) → MayRename s source k.name other
may_rename s from to source other k = record { from = k.named; into = entry_lacks s.books.geom.layout (files_in s nothing_drafted) other source.dir source.count k.entry }

pub may_move_away : (s : State) (from to : List (List ℕ)) (source : Named) (into count : ℕ) (other : List ℕ) → source.dir ≢ into → (k : KnowsMove s.books.geom.layout (files_in s nothing_drafted) from to source into count None other)
    → MayMoveAway s source into count k.name other
may_move_away s from to source into count other apart k = record { from = k.named; into = entry_lacks s.books.geom.layout (files_in s nothing_drafted) other into count k.entry; apart = apart }

-- the second directory is what grows
pub grown_into : (s : State) (from to : List (List ℕ)) (source into : ℕ) (name other : List ℕ) → KnowsPaths (inodes s) from to source into name other → grown_on s (Rename from to) ≡ Some into
grown_into s from to source into name other paths = ap (number_at (inodes s)) (ap parent paths.to_is ∙ above paths.above other) ∙ paths.into_leads

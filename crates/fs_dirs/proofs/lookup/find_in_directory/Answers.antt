use Rattle.std.proofs.Common.{sym, subst, ap, ◌∙◌}
use Rattle.std.specs.Prelude.{IfSome}
use Rattle.std.proofs.lemmas.Option.{same_Some}
use Rattle.layout_geometry.specs.Geometry.{Geometry}
use Rattle.crash_stands.specs.Inodes.{ADir, inodes_of}
use Rattle.fs_dirs.specs.Directories.{Finds, IsNumber}
use Rattle.fs_dirs.proofs.reading.Searches.{number_found}
use Rattle.fs_dirs.proofs.lookup.find_in_directory.Goals as goal

pub returns : goal.returns
returns g c =
    let s = g.S.Blocks.state c.args.blocks.now in
    let limit = c.i-limit.ensures ∙ ap (λ (h : Geometry). h.i) c.geom.ensures in
    record {
      found = λ told t slots map is.
          let finds = c.in_ok-found.ensures.found told slots (record { dir = c.args.dir.now.number; is = is; blocks = c.requires.opened.blocks told }) (sym (same_Some _ _ (c.requires.opened.count told (ADir slots) is))) in
          subst (λ r. Finds slots c.args.name.now r)
          (sym (c.in_table.ensures.same (number_found c.a_name_stands_at_its_place.ensures.found c.i-limit.result s.books.geom.i c.args.dir.now.number (inodes_of s.books.geom.layout (g.N.Nodes.nodes s c.args.files.now).files) t slots c.args.name.now
          c.in_ok-found.found limit map (c.slots_name_nodes_in_use.ensures.used _ _ t map) is finds)))
          finds;
      place = c.in_table.ensures.place c.in_ok-found.ensures.place;
      number = subst (λ n. IfSome c.in_table.result (λ f. IsNumber n f.node)) limit c.in_table.ensures.number;
      refused = tt;
      looks = c.in_ok-found.ensures.looks;
    }

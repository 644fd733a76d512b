use Rattle.std.proofs.Common.{◌++◌, codes, decimal, length}
use Rattle.std.proofs.KnownBytes.{Appends-trans}
use Rattle.lang_tree.specs.Listing.{digits_behind_blank}
use Rattle.fs_memtree.proofs.outputs.Pieces.{head, on_err}
use Rattle.fs_memtree.specs.Trails.{path_on}
use Rattle.fs_memtree.proofs.listing.write_file.Goals as goal

pub returns-in_err-write_head-clause-front : goal.returns-in_err-write_head-clause-front
returns-in_err-write_head-clause-front g c =
    let join = c.prefixes_join.ensures in
    let number = head (codes "file ") (path_on c.args.path.now) c.args.number in
    let size = number ++ codes " " ++ decimal (length c.args.bytes.now) in
    on_err _ _ (join.first _ _ (size ++ digits_behind_blank c.args.bytes.now) _ (join.first _ _ size _ (join.first _ _ (number ++ codes " ") _ (join.first _ _ number _ c.in_err-write_head.ensures.front))))

pub returns-in_err-push_all-clause-front : goal.returns-in_err-push_all-clause-front
returns-in_err-push_all-clause-front g c =
    let join = c.prefixes_join.ensures in
    let number = head (codes "file ") (path_on c.args.path.now) c.args.number in
    let size = number ++ codes " " ++ decimal (length c.args.bytes.now) in
    on_err _ _ (join.first _ _ (size ++ digits_behind_blank c.args.bytes.now) _ (join.first _ _ size _ (join.first _ _ (number ++ codes " ") _
    (join.second _ _ _ number _ c.in_ok-write_head.ensures.all c.in_err-push_all.ensures.front))))

pub returns-in_err-write_number-clause-front : goal.returns-in_err-write_number-clause-front
returns-in_err-write_number-clause-front g c =
    let join = c.prefixes_join.ensures in
    let number = head (codes "file ") (path_on c.args.path.now) c.args.number in
    let size = number ++ codes " " ++ decimal (length c.args.bytes.now) in
    let blank = Appends-trans _ _ _ number _ c.in_ok-write_head.ensures.all c.in_ok-push_all.ensures.all in
    on_err _ _ (join.first _ _ (size ++ digits_behind_blank c.args.bytes.now) _ (join.first _ _ size _ (join.second _ _ _ (number ++ codes " ") _ blank c.in_err-write_number.ensures.front)))

pub returns-in_err-write_digits-clause-front : goal.returns-in_err-write_digits-clause-front
returns-in_err-write_digits-clause-front g c =
    let number = head (codes "file ") (path_on c.args.path.now) c.args.number in
    let size = number ++ codes " " ++ decimal (length c.args.bytes.now) in
    let blank = Appends-trans _ _ _ number _ c.in_ok-write_head.ensures.all c.in_ok-push_all.ensures.all in
    let sized = Appends-trans _ _ _ (number ++ codes " ") _ blank c.in_ok-write_number.ensures.all in
    on_err _ _ (c.prefixes_join.ensures.first _ _ (size ++ digits_behind_blank c.args.bytes.now) _ (c.prefixes_join.ensures.second _ _ _ size _ sized c.in_err-write_digits.ensures.front))

pub returns-in_err-push_all-2-clause-front : goal.returns-in_err-push_all-2-clause-front
returns-in_err-push_all-2-clause-front g c =
    let number = head (codes "file ") (path_on c.args.path.now) c.args.number in
    let size = number ++ codes " " ++ decimal (length c.args.bytes.now) in
    let blank = Appends-trans _ _ _ number _ c.in_ok-write_head.ensures.all c.in_ok-push_all.ensures.all in
    let sized = Appends-trans _ _ _ (number ++ codes " ") _ blank c.in_ok-write_number.ensures.all in
    let told = Appends-trans _ _ _ size _ sized c.in_ok-write_digits.ensures.all in
    on_err _ _ (c.prefixes_join.ensures.second _ _ _ (size ++ digits_behind_blank c.args.bytes.now) _ told c.in_err-push_all-2.ensures.front)

pub returns-clause-all : goal.returns-clause-all
returns-clause-all g c =
    let number = head (codes "file ") (path_on c.args.path.now) c.args.number in
    let size = number ++ codes " " ++ decimal (length c.args.bytes.now) in
    let blank = Appends-trans _ _ _ number _ c.in_ok-write_head.ensures.all c.in_ok-push_all.ensures.all in
    let sized = Appends-trans _ _ _ (number ++ codes " ") _ blank c.in_ok-write_number.ensures.all in
    let told = Appends-trans _ _ _ size _ sized c.in_ok-write_digits.ensures.all in
    Appends-trans _ _ _ (size ++ digits_behind_blank c.args.bytes.now) _ told c.in_ok-push_all-2.ensures.all

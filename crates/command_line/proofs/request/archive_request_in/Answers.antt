use Rattle.std.proofs.Common.{rules, ◌≡◌, codes, inr, ⊎_elim, sym, true≢false}
use Rattle.std.specs.Prelude.{Some}
use Rattle.clap.specs.Words.{found_of, subcommand_name_of}
use Rattle.command_line.proofs.ClapInverse.{archive_named, archive_right, archive_wrong, verify_right, verify_wrong, restore_right, restore_wrong}
use Rattle.command_line.proofs.request.archive_request_in.Goals as goal

pub returns-in_default-from_in-clause-none : goal.returns-in_default-from_in-clause-none
returns-in_default-from_in-clause-none c words read right =
    let is : subcommand_name_of c.args.matches.now ≡ Some (codes "archive") = search rules in
    archive_wrong words c.args.matches.now (found_of c.in-Some.archive.now) read c.in-Some.ensures.rows is c.in_default-from_in.ensures.none (inr (inr (inr (inr (inr (inr right))))))

pub returns-in-Some-clause-some : goal.returns-in-Some-clause-some
returns-in-Some-clause-some c words read =
    let is : subcommand_name_of c.args.matches.now ≡ Some (codes "archive") = search rules in
    archive_right words c.args.matches.now (found_of c.in-Some.archive.now) read c.in-Some.ensures.rows is c.in-Some-from_in.from c.in-Some-from_in.ensures.from

pub returns-in_default-archive_pages_in-clause-none : goal.returns-in_default-archive_pages_in-clause-none
returns-in_default-archive_pages_in-clause-none c words read right =
    let is : subcommand_name_of c.args.matches.now ≡ Some (codes "verify") = search rules in
    verify_wrong words c.args.matches.now (found_of c.in-Some-subcommand_matches.verify.now) read c.in-Some-subcommand_matches.ensures.rows is c.in_default-archive_pages_in.ensures.none (inr (inr (inr (inr (inr (inr right))))))

pub returns-in-Some-subcommand_matches-clause-some : goal.returns-in-Some-subcommand_matches-clause-some
returns-in-Some-subcommand_matches-clause-some c words read =
    let is : subcommand_name_of c.args.matches.now ≡ Some (codes "verify") = search rules in
    verify_right words c.args.matches.now (found_of c.in-Some-subcommand_matches.verify.now) read c.in-Some-subcommand_matches.ensures.rows is c.in-Some-archive_pages_in.pages c.in-Some-archive_pages_in.ensures.pages

pub returns-in_default-restoring_in-clause-none : goal.returns-in_default-restoring_in-clause-none
returns-in_default-restoring_in-clause-none c words read right =
    let is : subcommand_name_of c.args.matches.now ≡ Some (codes "restore") = search rules in
    restore_wrong words c.args.matches.now (found_of c.in-Some-subcommand_matches-2.restore.now) read c.in-Some-subcommand_matches-2.ensures.rows is c.in_default-restoring_in.ensures.none (inr (inr (inr (inr (inr (inr right))))))

pub returns-in-Some-subcommand_matches-2-clause-some : goal.returns-in-Some-subcommand_matches-2-clause-some
returns-in-Some-subcommand_matches-2-clause-some c words read =
    let is : subcommand_name_of c.args.matches.now ≡ Some (codes "restore") = search rules in
    restore_right words c.args.matches.now (found_of c.in-Some-subcommand_matches-2.restore.now) read c.in-Some-subcommand_matches-2.ensures.rows is c.in-Some-restoring_in.restoring c.in-Some-restoring_in.ensures.restoring

pub returns-clause-none : goal.returns-clause-none
returns-clause-none c words read right = ⊎_elim
    (λ archive. absurd (true≢false (sym (c.in_default.ensures.found.1 archive))))
    (λ other. ⊎_elim
    (λ verify. absurd (true≢false (sym (c.in_default-subcommand_matches.ensures.found.1 verify))))
    (λ restore. absurd (true≢false (sym (c.in_default-subcommand_matches-2.ensures.found.1 restore)))) other)
    (archive_named words c.args.matches.now read right)

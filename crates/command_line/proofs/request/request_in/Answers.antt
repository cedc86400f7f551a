use Rattle.std.proofs.Common.{rules, ◌≡◌, codes, ⊎_elim, sym, true≢false}
use Rattle.std.specs.Prelude.{Some}
use Rattle.clap.specs.Words.{found_of, subcommand_name_of}
use Rattle.command_line.proofs.ClapInverse.{run_right, run_wrong, new_right, new_wrong, load_right, load_wrong, simulate_right, simulate_wrong, trial_right, trial_wrong, check_right, if_none, right_named}
use Rattle.command_line.proofs.request.request_in.Goals as goal

pub returns-in_default-pool_in-clause-none : goal.returns-in_default-pool_in-clause-none
returns-in_default-pool_in-clause-none c words read =
    let is : subcommand_name_of c.args.matches.now ≡ Some (codes "run") = search rules in
    run_wrong words c.args.matches.now (found_of c.in-Some.run'.now) read c.in-Some.ensures.rows is c.in_default-pool_in.ensures.none

pub returns-in-Some-clause-some : goal.returns-in-Some-clause-some
returns-in-Some-clause-some c words read =
    let is : subcommand_name_of c.args.matches.now ≡ Some (codes "run") = search rules in
    run_right words c.args.matches.now (found_of c.in-Some.run'.now) read c.in-Some.ensures.rows is c.in-Some-pool_in.pool c.in-Some-pool_in.ensures.pool

pub returns-in_default-sizes_in-clause-none : goal.returns-in_default-sizes_in-clause-none
returns-in_default-sizes_in-clause-none c words read =
    let is : subcommand_name_of c.args.matches.now ≡ Some (codes "new") = search rules in
    new_wrong words c.args.matches.now (found_of c.in-Some-subcommand_matches.new.now) read c.in-Some-subcommand_matches.ensures.rows is c.in_default-sizes_in.ensures.none

pub returns-in-Some-subcommand_matches-clause-some : goal.returns-in-Some-subcommand_matches-clause-some
returns-in-Some-subcommand_matches-clause-some c words read =
    let is : subcommand_name_of c.args.matches.now ≡ Some (codes "new") = search rules in
    new_right words c.args.matches.now (found_of c.in-Some-subcommand_matches.new.now) read c.in-Some-subcommand_matches.ensures.rows is c.in-Some-sizes_in.geometry c.in-Some-sizes_in.ensures.sizes

pub returns-in_default-load_in-clause-none : goal.returns-in_default-load_in-clause-none
returns-in_default-load_in-clause-none c words read =
    let is : subcommand_name_of c.args.matches.now ≡ Some (codes "load") = search rules in
    load_wrong words c.args.matches.now (found_of c.in-Some-subcommand_matches-2.load.now) read c.in-Some-subcommand_matches-2.ensures.rows is c.in_default-load_in.ensures.none

pub returns-in-Some-subcommand_matches-2-clause-some : goal.returns-in-Some-subcommand_matches-2-clause-some
returns-in-Some-subcommand_matches-2-clause-some c words read =
    let is : subcommand_name_of c.args.matches.now ≡ Some (codes "load") = search rules in
    load_right words c.args.matches.now (found_of c.in-Some-subcommand_matches-2.load.now) read c.in-Some-subcommand_matches-2.ensures.rows is c.in-Some-load_in.load c.in-Some-load_in.ensures.load

pub returns-in_default-simulation_in-clause-none : goal.returns-in_default-simulation_in-clause-none
returns-in_default-simulation_in-clause-none c words read =
    let is : subcommand_name_of c.args.matches.now ≡ Some (codes "simulate") = search rules in
    simulate_wrong words c.args.matches.now (found_of c.in-Some-subcommand_matches-3.simulate.now) read c.in-Some-subcommand_matches-3.ensures.rows is c.in_default-simulation_in.ensures.none

pub returns-in-Some-subcommand_matches-3-clause-some : goal.returns-in-Some-subcommand_matches-3-clause-some
returns-in-Some-subcommand_matches-3-clause-some c words read =
    let is : subcommand_name_of c.args.matches.now ≡ Some (codes "simulate") = search rules in
    simulate_right words c.args.matches.now (found_of c.in-Some-subcommand_matches-3.simulate.now) read c.in-Some-subcommand_matches-3.ensures.rows is c.in-Some-simulation_in.simulation c.in-Some-simulation_in.ensures.simulation

pub returns-in_default-trial_in-clause-none : goal.returns-in_default-trial_in-clause-none
returns-in_default-trial_in-clause-none c words read =
    let is : subcommand_name_of c.args.matches.now ≡ Some (codes "trial") = search rules in
    trial_wrong words c.args.matches.now (found_of c.in-Some-subcommand_matches-4.trial.now) read c.in-Some-subcommand_matches-4.ensures.rows is c.in_default-trial_in.ensures.none

pub returns-in-Some-subcommand_matches-4-clause-some : goal.returns-in-Some-subcommand_matches-4-clause-some
returns-in-Some-subcommand_matches-4-clause-some c words read =
    let is : subcommand_name_of c.args.matches.now ≡ Some (codes "trial") = search rules in
    trial_right words c.args.matches.now (found_of c.in-Some-subcommand_matches-4.trial.now) read c.in-Some-subcommand_matches-4.ensures.rows is c.in-Some-trial_in.trial c.in-Some-trial_in.ensures.trial

pub returns-in-Some-subcommand_matches-5-clause-some : goal.returns-in-Some-subcommand_matches-5-clause-some
returns-in-Some-subcommand_matches-5-clause-some c words read =
    let is : subcommand_name_of c.args.matches.now ≡ Some (codes "check") = search rules in
    check_right words c.args.matches.now read is

pub returns-clause-none : goal.returns-clause-none
returns-clause-none c words read = if_none c.archive_request_in.result (λ none right. ⊎_elim
    (λ run. absurd (true≢false (sym (c.in_default.ensures.found.1 run))))
    (λ other. ⊎_elim
    (λ new. absurd (true≢false (sym (c.in_default-subcommand_matches.ensures.found.1 new))))
    (λ others. ⊎_elim
    (λ load. absurd (true≢false (sym (c.in_default-subcommand_matches-2.ensures.found.1 load))))
    (λ last. ⊎_elim
    (λ simulate. absurd (true≢false (sym (c.in_default-subcommand_matches-3.ensures.found.1 simulate))))
    (λ end. ⊎_elim
    (λ trial. absurd (true≢false (sym (c.in_default-subcommand_matches-4.ensures.found.1 trial))))
    (λ check. absurd (true≢false (sym (c.in_default-subcommand_matches-5.ensures.found.1 check)))) end) last) others) other)
    (right_named words c.args.matches.now read none right))
    (c.archive_request_in.ensures.none words read)

use Rattle.face.proofs.Names.{ap, arith, refl, sym, ◌∙◌, step, Line, BadLine}
use Rattle.std.specs.Prelude.{Ok, Some}
use Rattle.face.proofs.Carrying.{carries_idle, carries_mark, keeps_table, may_commit, none_idles, quit_idles, stat_idles}
use Rattle.face.proofs.Listed.{never_cache}
use Rattle.record_model.specs.declared.words.Reply.TheVariants as reply
use Rattle.face.proofs.commands.carry_out_plain.Goals as goal

pub returns-in-Begin : goal.returns-in-Begin
returns-in-Begin g c = keeps_table _ refl c.args.line (c.in-Some.is ∙ ap Some c.in-Begin.is) c.begin.result _ _ _ _ (record { keeps = c.begin.ensures.serves.keeps; log_reads = λ s fits. omega (arith, c.begin.ensures.serves.log_reads); answers = c.begin.ensures.answers; performs = c.begin.ensures.performs })

pub returns-in-Read : goal.returns-in-Read
returns-in-Read g c = keeps_table _ refl c.args.line (c.in-Some.is ∙ ap Some c.in-Read.is) c.read.result _ _ _ _ (record { keeps = c.read.ensures.serves.keeps; log_reads = λ s fits. omega (arith, c.read.ensures.serves.log_reads); answers = c.read.ensures.answers; performs = c.read.ensures.performs })

pub returns-in-Write : goal.returns-in-Write
returns-in-Write g c = keeps_table _ refl c.args.line (c.in-Some.is ∙ ap Some c.in-Write.is) c.write.result _ _ _ _ (record { keeps = c.write.ensures.serves.keeps; log_reads = λ s fits. omega (arith, c.write.ensures.serves.log_reads); answers = c.write.ensures.answers; performs = c.write.ensures.performs })

pub returns-in-Erase : goal.returns-in-Erase
returns-in-Erase g c = keeps_table _ refl c.args.line (c.in-Some.is ∙ ap Some c.in-Erase.is) c.erase.result _ _ _ _ (record { keeps = c.erase.ensures.serves.keeps; log_reads = λ s fits. omega (arith, c.erase.ensures.serves.log_reads); answers = c.erase.ensures.answers; performs = c.erase.ensures.performs })

pub returns-in-Scan : goal.returns-in-Scan
returns-in-Scan g c = keeps_table _ refl c.args.line (c.in-Some.is ∙ ap Some c.in-Scan.is) c.scan.result _ _ _ _ (record { keeps = c.scan.ensures.serves.keeps; log_reads = λ s fits. omega (arith, c.scan.ensures.serves.log_reads); answers = c.scan.ensures.answers; performs = c.scan.ensures.performs })

pub returns-in-Commit : goal.returns-in-Commit
returns-in-Commit g c = may_commit _ refl c.args.line (c.in-Some.is ∙ ap Some c.in-Commit.is) c.commit.result _ _ _ _ (record { keeps = c.commit.ensures.serves.keeps; log_reads = λ s fits. omega (arith, c.commit.ensures.serves.log_reads); answers = c.commit.ensures.answers; performs = c.commit.ensures.performs })

pub returns-in-Abort : goal.returns-in-Abort
returns-in-Abort g c = keeps_table _ refl c.args.line (c.in-Some.is ∙ ap Some c.in-Abort.is) c.abort.result _ _ _ _ (record { keeps = c.abort.ensures.serves; log_reads = c.abort.ensures.log_reads; answers = c.abort.ensures.answers; performs = c.abort.ensures.performs })

pub returns-in-Mark : goal.returns-in-Mark
returns-in-Mark g c =
    let site = g.S.Site.state c.args.site.now in
    carries_mark c.args.line _ (c.in-Some.is ∙ ap Some c.in-Mark.is) c.mark.result c.args.engine.now c.mark.new.self site c.mark.ensures.store c.requires.going (c.mark.ensures.going site c.requires.going) (λ s fits. c.mark.ensures.answers s site fits)

pub returns-in-Back : goal.returns-in-Back
returns-in-Back g c = keeps_table _ refl c.args.line (c.in-Some.is ∙ ap Some c.in-Back.is) c.back.result _ _ _ _ (record { keeps = c.back.ensures.serves; log_reads = c.back.ensures.log_reads; answers = c.back.ensures.answers; performs = c.back.ensures.performs })

pub returns-in-Get : goal.returns-in-Get
returns-in-Get g c = keeps_table _ refl c.args.line (c.in-Some.is ∙ ap Some c.in-Get.is) c.get.result _ _ _ _ (record { keeps = c.get.ensures.serves.keeps; log_reads = λ s fits. omega (arith, c.get.ensures.serves.log_reads); answers = c.get.ensures.answers; performs = c.get.ensures.performs })

pub returns-in-Set : goal.returns-in-Set
returns-in-Set g c = may_commit _ refl c.args.line (c.in-Some.is ∙ ap Some c.in-Set.is) c.set.result _ _ _ _ (record { keeps = c.set.ensures.serves.keeps; log_reads = λ s fits. omega (arith, c.set.ensures.serves.log_reads); answers = c.set.ensures.answers; performs = c.set.ensures.performs })

pub returns-in-Checkpoint : goal.returns-in-Checkpoint
returns-in-Checkpoint g c = keeps_table _ refl c.args.line (c.in-Some.is ∙ ap Some c.in-Checkpoint.is) c.checkpoint.result _ _ _ _ (record { keeps = c.checkpoint.ensures.serves.keeps; log_reads = λ s fits. omega (arith, c.checkpoint.ensures.serves.log_reads); answers = c.checkpoint.ensures.answers; performs = c.checkpoint.ensures.performs })

pub unreachable-requires : goal.unreachable-requires
unreachable-requires g c = absurd (never_cache c.args.line c.in-Some.command c.requires.plain c.in-Some.is c.in-Cache.is)

pub returns-in-Stat : goal.returns-in-Stat
returns-in-Stat g c =
    let line = c.in-Some.is ∙ ap Some c.in-Stat.is in
    carries_idle c.args.line _ line stat_idles (Ok c.stat.result) c.args.engine.now (g.S.Site.state c.args.site.now) c.requires.going tt
    (λ s listing asked fits. c.stat.ensures s (g.S.Site.state c.args.site.now) fits ∙ ap (λ (l : Line). (step s l listing).reply) (sym line))

pub returns-in-Quit : goal.returns-in-Quit
returns-in-Quit g c =
    let line = c.in-Some.is ∙ ap Some c.in-Quit.is in
    carries_idle c.args.line _ line quit_idles (Ok reply.Bye) c.args.engine.now (g.S.Site.state c.args.site.now) c.requires.going tt
    (λ s listing asked fits. ap (λ (l : Line). (step s l listing).reply) (sym line))

pub returns-in_default : goal.returns-in_default
returns-in_default g c =
    carries_idle c.args.line _ c.in_default.is none_idles (Ok (reply.Refused BadLine)) c.args.engine.now (g.S.Site.state c.args.site.now) c.requires.going tt
    (λ s listing asked fits. ap (λ (l : Line). (step s l listing).reply) (sym c.in_default.is))

use Rattle.std.proofs.Common.{◌≡◌, ◌∙◌, rules, ap₂, codes}
use Rattle.clap.specs.Words.{app_of, new_app, rule_of, with_rule}
use Rattle.cm_words.specs.Words.{command, flagless, job_rule, make_rule, workers_rule}
use Rattle.cm_words.proofs.WordLemmas.{flagless-app, parsed_given}
use Rattle.cm_words.proofs.words.parsed.Goals as goal

-- the command is the one that is written down
pub returns : goal.returns
returns c =
    let job_is : rule_of c.required-job.result ≡ job_rule = search rules in
    let make_is : rule_of c.long-make.result ≡ make_rule = search rules in
    let workers_is : rule_of c.long-workers.result ≡ workers_rule = search rules in
    let flagless_is : app_of c.disable_version_flag.result ≡ flagless (new_app (codes "cm")) =
    flagless-app c.new-4.result c.disable_help_flag.result c.disable_version_flag.result _ c.new-4.ensures.app
    c.disable_help_flag.ensures c.disable_version_flag.ensures in
    let with_job : app_of c.in_ok-arg.field-0 ≡ with_rule (flagless (new_app (codes "cm"))) job_rule =
    c.in_ok-arg.ensures.shape (search rules) ∙ ap₂ with_rule flagless_is job_is in
    let with_make : app_of c.in_ok-arg-2.field-0
    ≡ with_rule (with_rule (flagless (new_app (codes "cm"))) job_rule) make_rule =
    c.in_ok-arg-2.ensures.shape (search rules) ∙ ap₂ with_rule with_job make_is in
    let command_is : app_of c.in_ok-command.command ≡ command =
    c.in_ok-command.ensures.shape (search rules) ∙ ap₂ with_rule with_make workers_is in
    let parse = c.try_get_matches_from in
    let both = parsed_given parse.result _ _ command_is parse.ensures.matches parse.ensures.kinds in
    record { found = both.0; refused = both.1 }

use Rattle.std.proofs.Common.{◌≡◌, ◌∙◌, ap, subst, sym}
use Rattle.case_texts.specs.Faults.{HasWrongByte, byte_of}
use Rattle.case_texts.specs.Results.{WrongMeans}
use Rattle.case_texts.proofs.Readings.{tokens_once}
use Rattle.case_texts.proofs.result_texts.wrong_token.Goals as goal

pub returns-in-Ok : goal.returns-in-Ok
returns-in-Ok c =
    let text = c.args.netlist.now in
    let same : c.in-Ok.tokens ≡ c.requires.wrong.tokens =
    tokens_once c.each_text_has_one_answer.ensures text c.requires.wrong.tokens c.requires.wrong.text c.in-Ok.tokens c.in-Ok.ensures.reads in
    let byte : HasWrongByte text c.byte_of.result =
    record { token = c.args.token; wrong = c.requires.wrong; byte = c.byte_of.ensures ∙ ap (λ ts. byte_of text ts c.args.token) same } in
    subst (WrongMeans text) (sym c.faulty_netlist.ensures) byte

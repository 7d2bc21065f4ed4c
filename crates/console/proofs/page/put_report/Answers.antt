use Rattle.std.proofs.Common.{◌≡◌, [], ◌++◌, take, take_all, append-nil, sym, ap, subst, ◌∙◌, arith}
use Rattle.console.specs.Outputs.{AppendsAllBut}
use Rattle.console.specs.Reports.{reply_lines, last_line, report_text}
use Rattle.console.proofs.Lines.{lines_more, rest_of_report, report_begins}
use Rattle.console.proofs.Writing.{hold_later, hold_none, hold_front, on_err, on_ok_map, on_err_map}
use Rattle.console.proofs.page.put_report.Goals as goal

pub loop-i-preserved : goal.loop-i-preserved
loop-i-preserved g c =
    let rs = c.args.report.replies.now in
    let i = c.loop-i.i in
    hold_later _ _ _ (reply_lines 0 (take i rs)) _ c.line_of_reply-line.result.bytes _ _
    (sym (lines_more rs i _ (omega arith)) ∙ ap (λ l. reply_lines 0 (take i rs) ++ l) (sym c.line_of_reply-line.ensures))
    c.loop-i.invariant c.in_ok-put_line.ensures.whole

pub returns-in_err-put_line-clause-front : goal.returns-in_err-put_line-clause-front
returns-in_err-put_line-clause-front g c =
    let rs = c.args.report.replies.now in
    let tally = c.args.report.tally in
    on_err _ (hold_front _ _ _ _ _ (rest_of_report rs tally c.loop-i.i) (report_text rs tally) (report_begins rs tally c.loop-i.i)
    c.loop-i.invariant c.in_err-put_line.ensures.front)

pub returns-in_err-put_line-2-clause-front : goal.returns-in_err-put_line-2-clause-front
returns-in_err-put_line-2-clause-front g c =
    let rs = c.args.report.replies.now in
    let tally = c.args.report.tally in
    on_err _ (hold_front _ _ _ _ _ (rest_of_report rs tally c.loop-i.i) (report_text rs tally) (report_begins rs tally c.loop-i.i)
    c.loop-i.invariant c.in_err-put_line-2.ensures.front)

pub returns : goal.returns
returns g c =
    let rs = c.args.report.replies.now in
    let tally = c.args.report.tally in
    let text = report_text rs tally in
    let before = g.W.Write.contents c.args.output.now in
    let after = g.W.Write.contents c.put_line-2.new.output in
    let lines = reply_lines 0 (take c.loop-i.i rs) in
    let all : take c.loop-i.i rs ≡ rs = take_all c.loop-i.i rs (omega arith) in
    let is_text : text ≡ lines ++ c.line_of_tally-last.result.bytes =
    ap (λ ss. reply_lines 0 ss ++ last_line tally) (sym all) ∙ ap (λ l. lines ++ l) (sym c.line_of_tally-last.ensures) in
    let held : AppendsAllBut before after text c.put_line-2.new.page.bytes =
    hold_later before _ after lines _ c.line_of_tally-last.result.bytes _ text is_text c.loop-i.invariant c.in_ok-put_line-2.ensures.whole in
    let handed : AppendsAllBut before after text c.as_bytes.result.now =
    subst (AppendsAllBut before after text) (sym (c.as_bytes.ensures.value ∙ c.as_str.ensures.value)) held in
    record {
      whole = on_ok_map c.put.result (hold_none _ _ _ _ _ handed) c.put.ensures.whole;
      front = on_err_map c.put.result (hold_front _ _ _ _ _ [] text (sym (append-nil text)) handed) c.put.ensures.front;
    }

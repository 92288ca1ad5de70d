use Rattle.std.proofs.Common.{sym, ap, ◌∙◌}
use Rattle.kernel_tree.specs.Printing.{mark_text}
use Rattle.kernel_print.proofs.MarkTexts.{reserved}
use Rattle.kernel_print.proofs.token.mark_str.Goals as goal

pub returns-in-OpenParen : goal.returns-in-OpenParen
returns-in-OpenParen c = ap mark_text (sym c.in-OpenParen.is)

pub returns-in-CloseParen : goal.returns-in-CloseParen
returns-in-CloseParen c = ap mark_text (sym c.in-CloseParen.is)

pub returns-in-OpenBracket : goal.returns-in-OpenBracket
returns-in-OpenBracket c = ap mark_text (sym c.in-OpenBracket.is)

pub returns-in-CloseBracket : goal.returns-in-CloseBracket
returns-in-CloseBracket c = ap mark_text (sym c.in-CloseBracket.is)

pub returns-in-OpenBrace : goal.returns-in-OpenBrace
returns-in-OpenBrace c = ap mark_text (sym c.in-OpenBrace.is)

pub returns-in-CloseBrace : goal.returns-in-CloseBrace
returns-in-CloseBrace c = ap mark_text (sym c.in-CloseBrace.is)

pub returns-in-Comma : goal.returns-in-Comma
returns-in-Comma c = ap mark_text (sym c.in-Comma.is)

pub returns-in-Semicolon : goal.returns-in-Semicolon
returns-in-Semicolon c = ap mark_text (sym c.in-Semicolon.is)

pub returns-in-Colon : goal.returns-in-Colon
returns-in-Colon c = ap mark_text (sym c.in-Colon.is)

pub returns-in-Arrow : goal.returns-in-Arrow
returns-in-Arrow c = ap mark_text (sym c.in-Arrow.is)

pub returns-in-Range : goal.returns-in-Range
returns-in-Range c = ap mark_text (sym c.in-Range.is)

pub returns-in-Equals : goal.returns-in-Equals
returns-in-Equals c = ap mark_text (sym c.in-Equals.is)

pub returns-in-Plus : goal.returns-in-Plus
returns-in-Plus c = ap mark_text (sym c.in-Plus.is)

pub returns-in-Minus : goal.returns-in-Minus
returns-in-Minus c = ap mark_text (sym c.in-Minus.is)

pub returns-in-Star : goal.returns-in-Star
returns-in-Star c = ap mark_text (sym c.in-Star.is)

pub returns-in-ShiftLeft : goal.returns-in-ShiftLeft
returns-in-ShiftLeft c = ap mark_text (sym c.in-ShiftLeft.is)

pub returns-in-ShiftRight : goal.returns-in-ShiftRight
returns-in-ShiftRight c = ap mark_text (sym c.in-ShiftRight.is)

pub returns-in-Ampersand : goal.returns-in-Ampersand
returns-in-Ampersand c = ap mark_text (sym c.in-Ampersand.is)

pub returns-in-Caret : goal.returns-in-Caret
returns-in-Caret c = ap mark_text (sym c.in-Caret.is)

pub returns-in-Bar : goal.returns-in-Bar
returns-in-Bar c = ap mark_text (sym c.in-Bar.is)

pub returns-in-AndAnd : goal.returns-in-AndAnd
returns-in-AndAnd c = ap mark_text (sym c.in-AndAnd.is)

pub returns-in-OrOr : goal.returns-in-OrOr
returns-in-OrOr c = ap mark_text (sym c.in-OrOr.is)

pub returns-in-Tilde : goal.returns-in-Tilde
returns-in-Tilde c = ap mark_text (sym c.in-Tilde.is)

pub returns-in-Bang : goal.returns-in-Bang
returns-in-Bang c = ap mark_text (sym c.in-Bang.is)

pub returns-in_default : goal.returns-in_default
returns-in_default c =
    let d = c.in_default in
    c.reserved_str.ensures ∙ reserved c.args.mark d.not-OpenParen d.not-CloseParen d.not-OpenBracket d.not-CloseBracket d.not-OpenBrace d.not-CloseBrace d.not-Comma d.not-Semicolon d.not-Colon d.not-Arrow d.not-Range d.not-Equals d.not-Plus d.not-Minus d.not-Star d.not-ShiftLeft d.not-ShiftRight d.not-Ampersand d.not-Caret d.not-Bar d.not-AndAnd d.not-OrOr d.not-Tilde d.not-Bang

use Rattle.page_memory.proofs.page.Page.zeroed.Goals as goal

pub returns : goal.returns
returns c = λ i. record { rights = c.args.rights; bytes = c.in_ok-new.ensures.ok i }

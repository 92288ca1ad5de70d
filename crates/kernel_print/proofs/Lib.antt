mod Printed
mod PrintedTokens
mod PrintedKernel
mod PrintWalks
mod BlockWalks
mod MarkTexts

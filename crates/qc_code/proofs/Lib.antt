mod Broken
mod Examples
mod Listed
mod OneLine
mod Trees

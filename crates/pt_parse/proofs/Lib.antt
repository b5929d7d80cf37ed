mod SuiteAnswers
mod SuiteLaws
